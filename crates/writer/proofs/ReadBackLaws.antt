-- Reading the block of a table that isn't refused gives the table back.
use Prim.Native.Nat.{ℕ, ◌+◌, ◌*◌, ◌/◌, ◌%◌, ◌^◌, ◌<◌}
use mathlib.Core.Path.{◌≡◌, refl, sym, ap, ap₂, ◌∙◌}
use mathlib.Core.Bool.{Bool, true, false, not}
use mathlib.Core.List.{List}
use native.Mathlib.Nat.{add-zero}
use native.Mathlib.Omega.{arith}
use lib.Dec.{ltb}
use lib.ListN.{length, get_or}
use borrow.Author.Tests.{ltb-true, ltb-false, le-ltb, eq-eqb}
use Rattle.lists.specs.Filled.{up_to}
use Rattle.lists.proofs.FilledLaws.{up_to-same}
use Rattle.edition.specs.Limits.{one, block_length, max_locations, most_events}
use Rattle.table.specs.declared.Event.{Event}
use Rattle.table.specs.declared.Table.{Table}
use Rattle.table.specs.Events.{capacity, no_event, event}
use Rattle.table.proofs.SameFields.{event-same, table_same}
use Rattle.checksum.specs.Checksum.{checksum, covered}
use Rattle.decode.specs.Layout.{byte_at, word_at, record_at, stored_check}
use Rattle.decode.specs.Decoded.{record_from, pick_event, event_at, initial_of, final_of, headed, decoded_as, decoded}
use Rattle.refusals.specs.Lines.{Refused, accepted, first_line, unless}
use Rattle.refusals.specs.TableLines.{table_lines}
use Rattle.refusals.proofs.LineLaws.{whole-next}
use Rattle.zero_bytes.specs.ZeroBytes.{bytes_not_zero}
use Rattle.block.specs.Reading.{length_lines, edition_lines, edition_refusal, read_refusal, read_table, no_table}
use Rattle.block.proofs.ReadingLaws.{states, no-later, edition-decides, as_one}
use Rattle.record_bytes.specs.RecordBytes.{two, record_bytes}
use Rattle.encode.specs.Encoded.{four, covered_bytes, check_bytes, encoded}
use Rattle.encode.proofs.LengthLaws.{length-record, length-covered, length-encoded}
use Rattle.writer.specs.Fits.{EventFits, ValuesFit, TableFits}
use Rattle.writer.proofs.StandsLaws.{Stands, stands_self, stands-left, stands-right, zeros-stand}
use Rattle.writer.proofs.NumberLaws.{word_of, long_of}
use Rattle.writer.proofs.HoldsLaws.{Holds, holds}
use Rattle.writer.proofs.GoodLaws.{MasksSmall, Good}
use Rattle.writer.proofs.CheckLaws.{check-small, check-encoded}

-- a number of two bytes within what stands
word-within : (s l : List ℕ) (at j : ℕ) → j + 1 < length l → Stands s at l → word_at s (at + j) ≡ word_at l j
word-within s l at j h g =
    let e : at + j + 1 ≡ at + (j + 1) = omega arith in
    ap₂ (λ (a b : ℕ). a + 256 * b) (g j (omega arith)) (ap (byte_at s) e ∙ g (j + 1) h)

word_back : (s : List ℕ) (at n : ℕ) → n < 2 ^ 16 → Stands s at (two n) → word_at s at ≡ n
word_back s at n h g = ap (word_at s) (sym (add-zero at)) ∙ word-within s (two n) at 0 (omega arith) g ∙ word_of n h

-- a record
record-back : (s : List ℕ) (at : ℕ) (e : Event) → EventFits e → MasksSmall e → Stands s at (record_bytes e) → record_from s at ≡ e
unfolding record_bytes
record-back s at e f m g =
    let n = length-record e in
    event-same (record_from s at) e (ap (byte_at s) (sym (add-zero at)) ∙ g 0 (omega (arith, n))) (g 1 (omega (arith, n))) (g 2 (omega (arith, n))) (g 3 (omega (arith, n)))
    (word-within s (record_bytes e) at 4 (omega (arith, n)) g ∙ word_of e.addr m.addr)
    (word-within s (record_bytes e) at 6 (omega (arith, n)) g ∙ word_of e.«data» m.«data»)
    (word-within s (record_bytes e) at 8 (omega (arith, n)) g ∙ word_of e.ctrl m.ctrl)
    (word-within s (record_bytes e) at 10 (omega (arith, n)) g ∙ word_of e.read f.read)
    (word-within s (record_bytes e) at 12 (omega (arith, n)) g ∙ word_of e.written f.written)
    (g 14 (omega (arith, n))) (g 15 (omega (arith, n)))

-- the values of the locations
values-back : (s vs : List ℕ) (at : ℕ) → ValuesFit vs → ((x : ℕ) → x < max_locations → Stands s (at + 2 * x) (two (get_or vs x 0)))
    → up_to max_locations (λ (x : ℕ). word_at s (at + 2 * x)) ≡ vs
values-back s vs at f h =
    sym (up_to-same max_locations (λ (x : ℕ). word_at s (at + 2 * x)) 0 vs f.long (λ x l. sym (word_back s (at + 2 * x) (get_or vs x 0) (f.each x l) (h x l))))

module _ (s : List ℕ) (t : Table) (h : Holds s t) (f : TableFits t) (g : Good t) where
  -- a slot
  slot-back : (k : ℕ) → k < capacity → event_at one s k ≡ event t k
  unfolding event_at
  slot-back k l = go (ltb k (most_events one)) refl
    where
      go : (b : Bool) → ltb k (most_events one) ≡ b → pick_event b (record_from s (record_at k)) no_event ≡ event t k
      go true e = record-back s (record_at k) (event t k) (f.each k l) (g.masks k (ltb-true k (most_events one) e)) (h.records k (ltb-true k (most_events one) e))
      go false e = sym (g.past k (ltb-false k (most_events one) e) l)

  -- the table
  pub decoded-back : decoded_as one s ≡ t
  unfolding decoded_as headed initial_of final_of event
  decoded-back =
      table_same (decoded_as one s) t (h.counts 1 (omega arith)) (h.counts 2 (omega arith)) (h.counts 3 (omega arith)) (h.stated 0 (omega arith))
      (h.model 0 (omega arith))
      (values-back s t.initial 16 f.initial h.initial)
      (sym (up_to-same capacity (event_at one s) no_event t.events f.long (λ k l. sym (slot-back k l))))
      (values-back s t.finals 288 f.finals h.finals)

-- no byte named zero isn't zero
zeros-back : (s : List ℕ) (t : Table) → Holds s t → bytes_not_zero one s ≡ false
unfolding bytes_not_zero
zeros-back s t h = rw (zeros-stand s 10 6 h.header, zeros-stand s 304 204 h.tail) refl

-- the block of a table holds it
encoded-holds : (t : Table) → Holds (encoded t) t
unfolding encoded
encoded-holds t = holds (encoded t) t (stands-left (encoded t) (covered_bytes t) (check_bytes t) 0 (stands_self (encoded t)))

-- its check is right
check-back : (t : Table) → TableFits t → stored_check (encoded t) ≡ checksum (encoded t)
unfolding encoded check_bytes
check-back t f =
    let g = stands-right (encoded t) (covered_bytes t) (check_bytes t) 0 covered (omega (arith, length-covered t)) (stands_self (encoded t)) in
    let n = checksum (covered_bytes t) in
    four-back (encoded t) n g ∙ long_of n (check-small t f) ∙ check-encoded t
  where
    four-back : (s : List ℕ) (n : ℕ) → Stands s 508 (four n) → stored_check s ≡ n % 256 + 256 * (n / 256 % 256) + 65536 * (n / 65536 % 256) + 16777216 * (n / 16777216 % 256)
    four-back s n g = rw (g 0 (omega arith), g 1 (omega arith), g 2 (omega arith), g 3 (omega arith)) refl

-- no line refuses it
pub read-accepted : (t : Table) → TableFits t → Good t → first_line t.count (table_lines (most_events one) false t) ≡ accepted → read_refusal (encoded t) ≡ accepted
unfolding edition_refusal edition_lines length_lines
read-accepted t f g h =
    let s = encoded t in
    let p = encoded-holds t in
    let lines : first_line (decoded_as one s).count (table_lines (most_events one) (bytes_not_zero one s) (decoded_as one s)) ≡ first_line t.count (table_lines (most_events one) false t) =
    ap₂ (λ (b : Bool) (u : Table). first_line u.count (table_lines (most_events one) b u)) (zeros-back s t p) (decoded-back s t p f g) in
    sym
    (whole-next _ _ _ _ _ (ap not (eq-eqb _ _ (length-encoded t))) (whole-next _ _ _ _ _ (no-later s) (sym (lines ∙ h)))
    ∙ edition-decides one s (le-ltb (length s) block_length (omega (arith, length-encoded t))) (ap not (eq-eqb _ _ (check-back t f)))
    (rw (p.marker 0 (omega arith), p.marker 1 (omega arith), p.marker 2 (omega arith), p.marker 3 (omega arith)) refl)
    (p.counts 0 (omega arith)))

-- and the table is given back
pub read_table_lem : (t : Table) → TableFits t → Good t → first_line t.count (table_lines (most_events one) false t) ≡ accepted → read_table (encoded t) ≡ t
unfolding read_table
read_table_lem t f g h =
    ap (λ (r : Refused). unless r (decoded (encoded t)) no_table) (read-accepted t f g h)
    ∙ as_one (encoded t) (states one (encoded t) ((encoded-holds t).counts 0 (omega arith))).0 ∙ decoded-back (encoded t) t (encoded-holds t) f g
