-- A block that isn't refused is that of the table that it holds.
use Prim.Native.Nat.{ℕ, ◌+◌, ◌*◌, ◌<◌, ◌≤◌}
use mathlib.Core.Path.{◌≡◌, refl, sym, ap, subst, ◌∙◌}
use mathlib.Core.Bool.{Bool, true, false, not, ◌&&◌, ◌||◌, false≢true}
use mathlib.Core.List.{List, [], ◌++◌}
use native.Mathlib.Nat.{add-zero}
use native.Mathlib.Omega.{arith}
use lib.Dec.{eqb}
use lib.ListN.{length, take}
use lib.Seq.{length-take-le, get_or-take}
use borrow.Author.Tests.{lt-ltb, eqb-true, not-false}
use Rattle.lists.proofs.BoolLaws.{or_off}
use Rattle.lists.proofs.FilledLaws.{get_or-up_to}
use Rattle.edition.specs.Limits.{Edition, one, edition_number, max_locations, block_length, most_events}
use Rattle.table.specs.declared.Event.{Event}
use Rattle.table.specs.Events.{capacity, no_event, event}
use Rattle.checksum.specs.Checksum.{checksum, covered}
use Rattle.decode.specs.Layout.{byte_at, word_at, edition_at, record_at, stored_check, second_if, edition_of}
use Rattle.decode.specs.Decoded.{record_from, event_at, initial_of, final_of, headed, decoded_as, decoded}
use Rattle.refusals.specs.Lines.{accepted, first_line}
use Rattle.refusals.specs.TableLines.{table_lines}
use Rattle.refusals.proofs.LineLaws.{whole-off}
use Rattle.refusals.proofs.TablePassed.{table-passed, fewer-passed}
use Rattle.zero_bytes.specs.ZeroBytes.{header_zeros, tail_zeros, bytes_not_zero}
use Rattle.block.specs.Reading.{line1, line2, line3, line4, length_wrong, header_lines, length_lines, edition_refusal, read_refusal}
use Rattle.block.proofs.ReadingLaws.{passed-header, passed-edition, as_one}
use Rattle.record_bytes.specs.RecordBytes.{two, code_bytes, mask_bytes, operation_bytes, record_bytes}
use Rattle.encode.specs.Encoded.{four, marker_bytes, count_bytes, stated_bytes, model_bytes, covered_bytes, check_bytes, encoded}
use Rattle.encode.proofs.LengthLaws.{length-covered, length-encoded}
use Rattle.writer.specs.Fits.{Bytes}
use Rattle.writer.proofs.StandsLaws.{Stands, stands-all, stands-both, stands-zeros, entries-stand}
use Rattle.writer.proofs.NumberLaws.{word_low, word-high, long-0, long-1, long-2, long-3}
use Rattle.writer.proofs.HoldsLaws.{Holds, holds-all}
use Rattle.writer.proofs.CheckLaws.{bytes-at, check-front}

-- what holds of an edition 1 block that isn't refused, line by line
pub record Passed (s : List ℕ) : Type 0 where
  pub long : length s ≡ block_length
  pub check : stored_check s ≡ checksum s
  pub marker : line3 s ≡ false
  pub edition : byte_at s edition_at ≡ edition_number one
  pub table : decoded s ≡ decoded_as one s
  pub zero : bytes_not_zero one s ≡ false
  pub lines : first_line (decoded_as one s).count (table_lines (most_events one) false (decoded_as one s)) ≡ accepted

equal_of : (a b : ℕ) → not (eqb a b) ≡ false → a ≡ b
equal_of a b h = eqb-true a b (not-false (eqb a b) h)

-- bytes that state no edition but 1, and no unknown one
states-one : (s : List ℕ) → edition_of s ≡ one → line4 s ≡ false → byte_at s edition_at ≡ edition_number one
unfolding edition_of
states-one s h k = go (eqb (byte_at s edition_at) (edition_number one)) (eqb (byte_at s edition_at) 2) refl h k
  where
    go : (a b : Bool) → eqb (byte_at s edition_at) (edition_number one) ≡ a → second_if b ≡ one → (not a && not b) ≡ false
        → byte_at s edition_at ≡ edition_number one
    go true b e h k = eqb-true (byte_at s edition_at) (edition_number one) e
    go false true e h k = let n : ◌≡◌ {A = ℕ} 2 1 = ap edition_number h in absurd (omega (arith, n))
    go false false e h k = absurd (false≢true (sym k))

pub passed : (s : List ℕ) → edition_of s ≡ one → read_refusal s ≡ accepted → Passed s
unfolding header_lines length_lines
passed s o h =
    let both = passed-header s h in
    let past1 = whole-off (decoded s).count 1 (line1 s) _ both.0 in
    let past2 = whole-off (decoded s).count 2 (line2 s) _ past1.1 in
    let past3 = whole-off (decoded s).count 3 (line3 s) _ past2.1 in
    let past4 = whole-off (decoded s).count 4 (line4 s) [] past3.1 in
    let edition = passed-edition one s (subst (λ (e : Edition). edition_refusal e s ≡ accepted) o both.1) in
    let long = whole-off (decoded_as one s).count 1 (length_wrong one s) _ edition.0 in
    let t = decoded_as one s in
    let passed = table-passed (most_events one) (bytes_not_zero one s) t edition.1 in
    record {
      long = equal_of (length s) block_length long.0;
      check = equal_of (stored_check s) (checksum s) past2.0;
      marker = past3.0;
      edition = states-one s o past4.0;
      table = as_one s o;
      zero = passed.bytes;
      lines = fewer-passed (most_events one) (most_events one) (bytes_not_zero one s) t edition.1 passed.counts.events;
    }

module _ (s : List ℕ) (bytes : Bytes s) where
  -- the bytes of a number of two bytes
  two-stand : (at : ℕ) → Stands s at (two (word_at s at))
  two-stand at =
      let a = byte_at s at in
      let b = byte_at s (at + 1) in
      entries-stand s at (two (word_at s at)) (
        ap (byte_at s) (add-zero at) ∙ sym (word_low a b (bytes-at s bytes at)),
        (sym (word-high a b (bytes-at s bytes at) (bytes-at s bytes (at + 1))), tt),
      )

  -- those of a record
  record-stands : (at : ℕ) → Stands s at (record_bytes (record_from s at))
  unfolding record_bytes
  record-stands at =
      let e = record_from s at in
      let codes = entries-stand s at (code_bytes e) (ap (byte_at s) (add-zero at), (refl, (refl, (refl, tt)))) in
      let addr-data = stands-both s (two e.addr) (two e.«data») (at + 4) (at + 6) (omega arith) (two-stand (at + 4)) (two-stand (at + 6)) in
      let masks = stands-both s (two e.addr ++ two e.«data») (two e.ctrl) (at + 4) (at + 8) (omega arith) addr-data (two-stand (at + 8)) in
      let to_read = stands-both s (code_bytes e) (mask_bytes e) at (at + 4) (omega arith) codes masks in
      let to-written = stands-both s (code_bytes e ++ mask_bytes e) (two e.read) at (at + 10) (omega arith) to_read (two-stand (at + 10)) in
      let to-operation = stands-both s (code_bytes e ++ mask_bytes e ++ two e.read) (two e.written) at (at + 12) (omega arith) to-written (two-stand (at + 12)) in
      let next : at + 14 + 1 ≡ at + 15 = omega arith in
      let operation = entries-stand s (at + 14) (operation_bytes e) (ap (byte_at s) (add-zero (at + 14)), (ap (byte_at s) next, tt)) in
      stands-both s (code_bytes e ++ mask_bytes e ++ two e.read ++ two e.written) (operation_bytes e) at (at + 14) (omega arith) to-operation operation

  -- slot k of the table is record k
  slot_is : (k : ℕ) → k < most_events one → record_from s (record_at k) ≡ event (decoded_as one s) k
  unfolding event decoded_as headed event_at
  slot_is k l =
      sym (get_or-up_to capacity (event_at one s) k no_event (omega arith) ∙ rw (lt-ltb k (most_events one) l) refl)

  -- each part of the layout stands at its place
  holds-decoded : Passed s → Holds s (decoded_as one s)
  unfolding decoded_as headed bytes_not_zero initial_of final_of
  holds-decoded p =
      let zeroed = or_off (header_zeros s) (tail_zeros s) p.zero in
      let byte : (i n : ℕ) → Bool = λ i n. not (eqb (byte_at s i) n) in
      let m3 = or_off (byte 0 0x52 || byte 1 0x56 || byte 2 0x54) (byte 3 0x31) p.marker in
      let m2 = or_off (byte 0 0x52 || byte 1 0x56) (byte 2 0x54) m3.0 in
      let m1 = or_off (byte 0 0x52) (byte 1 0x56) m2.0 in
      record {
        marker = entries-stand s 0 marker_bytes (equal_of _ _ m1.0, (equal_of _ _ m1.1, (equal_of _ _ m2.1, (equal_of _ _ m3.1, tt))));
        counts = entries-stand s 4 (count_bytes (decoded_as one s)) (p.edition, (refl, (refl, (refl, tt))));
        stated = entries-stand s 8 (stated_bytes (decoded_as one s)) (refl, tt);
        model = entries-stand s 9 (model_bytes (decoded_as one s)) (refl, tt);
        header = stands-zeros s 10 6 zeroed.0;
        initial = λ x l. subst (λ (v : ℕ). Stands s (16 + 2 * x) (two v)) (sym (get_or-up_to max_locations (initial_of s) x 0 l)) (two-stand (16 + 2 * x));
        records = λ k l. subst (λ (e : Event). Stands s (32 + 16 * k) (record_bytes e)) (slot_is k l) (record-stands (32 + 16 * k));
        finals = λ x l. subst (λ (v : ℕ). Stands s (288 + 2 * x) (two v)) (sym (get_or-up_to max_locations (final_of s) x 0 l)) (two-stand (288 + 2 * x));
        tail = stands-zeros s 304 204 zeroed.1;
      }

  -- the bytes of the stored check
  four-stand : Stands s 508 (four (stored_check s))
  four-stand =
      let b : ℕ → ℕ = λ i. byte_at s i in
      let k = bytes-at s bytes in
      entries-stand s 508 (four (stored_check s)) (
        sym (long-0 (b 508) (b 509) (b 510) (b 511) (k 508) (k 509) (k 510) (k 511)),
        (
          sym (long-1 (b 508) (b 509) (b 510) (b 511) (k 508) (k 509) (k 510) (k 511)),
          (
            sym (long-2 (b 508) (b 509) (b 510) (b 511) (k 508) (k 509) (k 510) (k 511)),
            (sym (long-3 (b 508) (b 509) (b 510) (b 511) (k 508) (k 509) (k 510) (k 511)), tt),
          ),
        ),
      )

-- a list that stands at the front is the front
stands-front : (s l : List ℕ) (n : ℕ) → length l ≡ n → n ≤ length s → Stands s 0 l → take n s ≡ l
stands-front s l n e h g =
    stands-all (take n s) l (length-take-le n s h ∙ sym e) (λ i k. get_or-take n s (0 + i) 0 (omega (arith, e)) ∙ g i k)

-- the block is that of the table
pub encoded-back : (s : List ℕ) → Bytes s → Passed s → encoded (decoded s) ≡ s
unfolding encoded check_bytes
encoded-back s bytes p =
    let t = decoded_as one s in
    let front = holds-all s t (holds-decoded s bytes p) in
    let taken = stands-front s (covered_bytes t) covered (length-covered t) (omega (arith, p.long)) front in
    let check : stored_check s ≡ checksum (covered_bytes t) = p.check ∙ sym (check-front s (covered_bytes t) taken (length-covered t)) in
    ap encoded p.table
    ∙ sym
    (stands-all s (encoded t) (p.long ∙ sym (length-encoded t))
    (stands-both s (covered_bytes t) (check_bytes t) 0 covered (omega (arith, length-covered t)) front
    (subst (λ (n : ℕ). Stands s covered (four n)) check (four-stand s bytes))))
