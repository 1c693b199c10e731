-- The bytes of a table are bytes, and so its check has four.
use Prim.Native.Nat.{ℕ, zero, suc, ◌+◌, ◌*◌, ◌^◌, ◌≤◌, ◌<◌}
use mathlib.Core.Path.{◌≡◌, sym, ap, ◌∙◌}
use mathlib.Core.List.{List, [], ◌∷◌, ◌++◌}
use native.Mathlib.Nat.{mul-le-mul}
use native.Mathlib.Omega.{arith}
use lib.ListN.{length, get_or, take}
use lib.Seq.{take_at, take_all}
use Rattle.edition.specs.Limits.{one, max_locations, most_events}
use Rattle.table.specs.declared.Event.{Event}
use Rattle.table.specs.declared.Table.{Table}
use Rattle.table.specs.Events.{event}
use Rattle.checksum.specs.Checksum.{covered, weighted_from, checksum}
use Rattle.decode.specs.Layout.{byte_at}
use Rattle.record_bytes.specs.RecordBytes.{two, code_bytes, mask_bytes, operation_bytes, record_bytes}
use Rattle.encode.specs.Encoded.{zeros, joined, value_bytes, marker_bytes, count_bytes, stated_bytes, model_bytes, header_zeros, initial_bytes, records_bytes, final_bytes, tail_zeros, covered_bytes, check_bytes, encoded}
use Rattle.encode.specs.Begun.{header, front}
use Rattle.encode.proofs.LengthLaws.{length-covered}
use Rattle.writer.specs.Fits.{Bytes, EventFits, TableFits}

-- each entry of a list of bytes is one; there is none past its end
pub bytes-at : (s : List ℕ) → Bytes s → (i : ℕ) → byte_at s i < 256
bytes-at [] h i = omega arith
bytes-at (b ∷ s) h zero = h.0
bytes-at (b ∷ s) h (suc i) = bytes-at s h.1 i

bytes-append : (a b : List ℕ) → Bytes a → Bytes b → Bytes (a ++ b)
bytes-append [] b h k = k
bytes-append (x ∷ a) b h k = (h.0, bytes-append a b h.1 k)

bytes-joined : (n : ℕ) (f : ℕ → List ℕ) → ((k : ℕ) → k < n → Bytes (f k)) → Bytes (joined n f)
unfolding joined
bytes-joined zero f h = tt
bytes-joined (suc n) f h = bytes-append (joined n f) (f n) (bytes-joined n f (λ k l. h k (omega arith))) (h n (omega arith))

bytes-zeros : (n : ℕ) → Bytes (zeros n)
bytes-zeros zero = tt
bytes-zeros (suc n) = (omega arith, bytes-zeros n)

bytes-two : (n : ℕ) → Bytes (two n)
bytes-two n = (omega arith, (omega arith, tt))

bytes-values : (vs : List ℕ) → Bytes (value_bytes vs)
unfolding value_bytes
bytes-values vs = bytes-joined max_locations (λ x. two (get_or vs x 0)) (λ x l. bytes-two (get_or vs x 0))

bytes-masks : (e : Event) → Bytes (mask_bytes e)
bytes-masks e =
    bytes-append (two e.addr ++ two e.«data») (two e.ctrl)
    (bytes-append (two e.addr) (two e.«data») (bytes-two e.addr) (bytes-two e.«data»))
    (bytes-two e.ctrl)

bytes-record : (e : Event) → EventFits e → Bytes (record_bytes e)
unfolding record_bytes
bytes-record e f =
    let codes : Bytes (code_bytes e) = (f.kind, (f.hart, (f.location, (f.flags, tt)))) in
    let masks = bytes-append (code_bytes e) (mask_bytes e) codes (bytes-masks e) in
    let read = bytes-append (code_bytes e ++ mask_bytes e) (two e.read) masks (bytes-two e.read) in
    let written = bytes-append (code_bytes e ++ mask_bytes e ++ two e.read) (two e.written) read (bytes-two e.written) in
    bytes-append (code_bytes e ++ mask_bytes e ++ two e.read ++ two e.written) (operation_bytes e) written (f.operation, (f.operand, tt))

bytes-records : (t : Table) → TableFits t → Bytes (records_bytes t)
unfolding records_bytes
bytes-records t f =
    bytes-joined (most_events one) (λ k. record_bytes (event t k)) (λ k l. bytes-record (event t k) (f.each k (omega arith)))

-- what the check covers is bytes
bytes-covered : (t : Table) → TableFits t → Bytes (covered_bytes t)
unfolding covered_bytes front
bytes-covered t f =
    let marker : Bytes marker_bytes = (omega arith, (omega arith, (omega arith, (omega arith, tt)))) in
    let counts : Bytes (count_bytes t) = (omega arith, (f.harts, (f.locations, (f.count, tt)))) in
    let counted = bytes-append marker_bytes (count_bytes t) marker counts in
    let stated = bytes-append (marker_bytes ++ count_bytes t) (stated_bytes t) counted (f.stated, tt) in
    let fields = bytes-append (marker_bytes ++ count_bytes t ++ stated_bytes t) (model_bytes t) stated (f.model, tt) in
    let zeroed = bytes-append (header t) header_zeros fields (bytes-zeros 6) in
    let initial = bytes-append (header t ++ header_zeros) (initial_bytes t) zeroed (bytes-values t.initial) in
    let records = bytes-append (front t) (records_bytes t) initial (bytes-records t f) in
    let finals = bytes-append (front t ++ records_bytes t) (final_bytes t) records (bytes-values t.finals) in
    bytes-append (front t ++ records_bytes t ++ final_bytes t) tail_zeros finals (bytes-zeros 204)

-- a byte at a place below n counts less than n times a byte's bound
place-small : (i n b : ℕ) → i < n → b < 256 → (i + 1) * b ≤ n * 255
place-small i n b h k = mul-le-mul {n₂ = n} {m₂ = 255} (omega arith) (omega arith)

-- a weighted sum of few bytes is small
weighted-below : (k : ℕ) (l : List ℕ) → Bytes l → k + length l ≤ covered → weighted_from k l ≤ covered * 255 * length l
unfolding weighted_from
weighted-below k [] h m = omega arith
weighted-below k (b ∷ l) h m =
    omega (arith, place-small k covered b (omega arith) h.0, weighted-below (k + 1) l h.1 (omega arith))

-- the check of a table has four bytes
pub check-small : (t : Table) → TableFits t → checksum (covered_bytes t) < 2 ^ 32
unfolding checksum
check-small t f =
    let n = length-covered t in
    let e : take covered (covered_bytes t) ≡ covered_bytes t = take_all covered (covered_bytes t) (omega (arith, n)) in
    let b = weighted-below 0 (covered_bytes t) (bytes-covered t f) (omega (arith, n)) in
    omega (arith, b, n, ap (weighted_from 0) e)

-- the check of bytes is that of those covered
pub check-front : (s l : List ℕ) → take covered s ≡ l → length l ≡ covered → checksum l ≡ checksum s
unfolding checksum
check-front s l e n = ap (weighted_from 0) (take_all covered l (omega (arith, n)) ∙ sym e)

-- so it is that of the table's block
pub check-encoded : (t : Table) → checksum (covered_bytes t) ≡ checksum (encoded t)
unfolding encoded
check-encoded t = check-front (encoded t) (covered_bytes t) (take_at (covered_bytes t) (check_bytes t) covered (length-covered t)) (length-covered t)
