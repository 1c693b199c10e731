-- Laws of a block that is written from the front, zeros behind what stands.
use Prim.Native.Nat.{ℕ, ◌+◌, ◌*◌, ◌-◌, ◌≤◌, ◌<◌}
use mathlib.Core.Path.{◌≡◌, refl, sym, ap, ◌∙◌}
use mathlib.Core.List.{List, [], ◌++◌, append_assoc, append-nil}
use native.Mathlib.Omega.{arith}
use lib.ListN.{length, drop, length-append, length-replicate, replicate-append-replicate}
use lib.Seq.{sets, sets-eq, take-append_seam, take_at, take_all, drop_at, drop-append-add}
use Rattle.edition.specs.Limits.{one, block_length, most_events}
use Rattle.table.specs.declared.Table.{Table}
use Rattle.table.specs.Events.{event}
use Rattle.checksum.specs.Checksum.{covered, checksum, weighted_from}
use Rattle.record_bytes.specs.RecordBytes.{record_bytes}
use Rattle.encode.specs.Encoded.{four, zeros, joined, header_zeros, initial_bytes, records_bytes, final_bytes, covered_bytes, check_bytes, encoded}
use Rattle.encode.specs.Begun.{begun, header, front}
use Rattle.encode.proofs.PutLaws.{length-joined, joined-more}
use Rattle.encode.proofs.LengthLaws.{length-values, length-record, length-records, length_front, length-covered, length-encoded}

-- bytes set where zeros begin
put-zeros : (a b : List ℕ) (r : ℕ) → sets (a ++ zeros (length b + r)) (length a) b ≡ a ++ b ++ zeros r
put-zeros a b r =
    let z = zeros (length b + r) in
    let n : length (a ++ z) ≡ length a + (length b + r) = length-append a z ∙ ap (λ (k : ℕ). length a + k) (length-replicate (length b + r) 0) in
    let d : drop (length a + length b) (a ++ z) ≡ zeros r =
    drop-append-add a z (length b)
    ∙ ap (λ (l : List ℕ). drop (length b) l) (sym (replicate-append-replicate (length b) r 0))
    ∙ drop_at (zeros (length b)) (zeros r) (length b) (length-replicate (length b) 0) in
    sets-eq b (a ++ z) (length a) (omega (arith, n))
    ∙ ap (λ (l : List ℕ). l ++ b ++ drop (length a + length b) (a ++ z)) (take-append_seam a z)
    ∙ ap (λ (l : List ℕ). a ++ b ++ l) d

-- the next bytes, behind what stands
pub begun-put : (a b l : List ℕ) (at : ℕ) → l ≡ begun a → at ≡ length a → at + length b ≤ block_length → sets l at b ≡ begun (a ++ b)
unfolding begun
begun-put a b l at e h k =
    let r : ℕ = block_length - (length a + length b) in
    let n : block_length - length a ≡ length b + r = omega arith in
    let m : r ≡ block_length - length (a ++ b) = omega (arith, length-append a b) in
    ap (λ (i : ℕ). sets l i b) h
    ∙ ap (λ (s : List ℕ). sets s (length a) b) (e ∙ ap (λ (i : ℕ). a ++ zeros i) n)
    ∙ put-zeros a b r
    ∙ ap (λ (i : ℕ). a ++ b ++ zeros i) m

zeros-behind : (a : List ℕ) (n r : ℕ) → a ++ zeros (n + r) ≡ a ++ zeros n ++ zeros r
zeros-behind a n r = ap (λ (l : List ℕ). a ++ l) (sym (replicate-append-replicate n r 0)) ∙ sym (append_assoc a (zeros n) (zeros r))

-- zeros behind what stands are there already
pub begun-zeros : (a : List ℕ) (n : ℕ) → length a + n ≤ block_length → begun a ≡ begun (a ++ zeros n)
unfolding begun
begun-zeros a n h =
    let r : ℕ = block_length - (length a + n) in
    let p : block_length - length a ≡ n + r = omega arith in
    let q : r ≡ block_length - length (a ++ zeros n) = omega (arith, length-append a (zeros n), length-replicate {A = ℕ} n 0) in
    ap (λ (i : ℕ). a ++ zeros i) p ∙ zeros-behind a n r ∙ ap (λ (i : ℕ). a ++ zeros n ++ zeros i) q

-- nothing stands yet
begun-none : zeros block_length ≡ begun []
unfolding begun
begun-none = refl

-- the fields before the records are set
pub begun-front : (t : Table) (l m : List ℕ) → l ≡ sets (zeros block_length) 0 (header t) → m ≡ sets l 16 (initial_bytes t) → m ≡ begun (front t)
unfolding front
begun-front t l m e f =
    f
    ∙ begun-put (header t ++ header_zeros) (initial_bytes t) l 16
    (e ∙ begun-put [] (header t) (zeros block_length) 0 begun-none refl (omega arith) ∙ begun-zeros (header t) 6 (omega arith))
    refl (omega (arith, length-values t.initial))

-- one more record is set
pub begun-record : (t : Table) (k : ℕ) (l m : List ℕ) → k < most_events one → l ≡ begun (front t ++ joined k (λ j. record_bytes (event t j)))
    → m ≡ sets l (32 + 16 * k) (record_bytes (event t k)) → m ≡ begun (front t ++ joined (k + 1) (λ j. record_bytes (event t j)))
begun-record t k l m h e f =
    let a = front t ++ joined k (λ j. record_bytes (event t j)) in
    let b = record_bytes (event t k) in
    let n : length a ≡ 32 + 16 * k =
    length-append (front t) (joined k (λ j. record_bytes (event t j)))
    ∙ omega (arith, length_front t, length-joined 16 k (λ j. record_bytes (event t j)) (λ j. length-record (event t j))) in
    f
    ∙ begun-put a b l (32 + 16 * k) e (sym n) (omega (arith, length-record (event t k)))
    ∙ ap begun
    (append_assoc (front t) (joined k (λ j. record_bytes (event t j))) b
    ∙ ap (λ (r : List ℕ). front t ++ r) (sym (joined-more k (λ j. record_bytes (event t j)))))

-- all records are set
pub begun-records : (t : Table) (k : ℕ) (l : List ℕ) → k ≤ most_events one → most_events one ≤ k
    → l ≡ begun (front t ++ joined k (λ j. record_bytes (event t j))) → l ≡ begun (front t ++ records_bytes t)
unfolding records_bytes
begun-records t k l h g e =
    let q : k ≡ most_events one = omega arith in
    e ∙ ap (λ (n : ℕ). begun (front t ++ joined n (λ j. record_bytes (event t j)))) q

-- all fields but the check are set
begun-covered : (t : Table) (l m : List ℕ) → l ≡ begun (front t ++ records_bytes t) → m ≡ sets l 288 (final_bytes t) → m ≡ begun (covered_bytes t)
unfolding covered_bytes front
begun-covered t l m e f =
    let a = front t ++ records_bytes t in
    let n : length a ≡ 288 = length-append (front t) (records_bytes t) ∙ omega (arith, length_front t, length-records t) in
    let q : length (a ++ final_bytes t) ≡ 304 = omega (arith, length-append a (final_bytes t), n, length-values t.finals) in
    f
    ∙ begun-put a (final_bytes t) l 288 e (sym n) (omega (arith, length-values t.finals))
    ∙ begun-zeros (a ++ final_bytes t) 204 (omega (arith, q))

-- the check covers the bytes before it
checksum-begun : (t : Table) → checksum (begun (covered_bytes t)) ≡ checksum (covered_bytes t)
unfolding checksum begun
checksum-begun t =
    ap (weighted_from 0)
    (take_at (covered_bytes t) (zeros (block_length - length (covered_bytes t))) covered (length-covered t)
    ∙ sym (take_all covered (covered_bytes t) (omega (arith, length-covered t))))

-- the check is set too
pub begun_all : (t : Table) (l m n : List ℕ) → l ≡ begun (front t ++ records_bytes t) → m ≡ sets l 288 (final_bytes t)
    → n ≡ sets m covered (four (checksum m)) → n ≡ encoded t
unfolding encoded check_bytes begun
begun_all t l m n e f g =
    let q = begun-covered t l m e f in
    let s = ap checksum q ∙ checksum-begun t in
    g
    ∙ ap (λ (x : ℕ). sets m covered (four x)) s
    ∙ begun-put (covered_bytes t) (four (checksum (covered_bytes t))) m covered q (sym (length-covered t)) (omega arith)
    ∙ ap (λ (k : ℕ). encoded t ++ zeros (block_length - k)) (length-encoded t)
    ∙ append-nil (encoded t)

-- no record is set yet
pub begun-start : (t : Table) (l : List ℕ) → l ≡ begun (front t) → l ≡ begun (front t ++ joined 0 (λ j. record_bytes (event t j)))
unfolding joined
begun-start t l e = e ∙ ap begun (sym (append-nil (front t)))

-- a block that begins has the length of a block
pub length-begun-front : (t : Table) (l : List ℕ) → l ≡ begun (front t) → length l ≡ block_length
unfolding begun
length-begun-front t l e =
    let z = zeros (block_length - length (front t)) in
    ap length e ∙ length-append (front t) z ∙ omega (arith, length_front t, length-replicate {A = ℕ} (block_length - length (front t)) 0)
