-- Each trip, once the refusal of its first half is known.
use Prim.Native.Nat.{ℕ}
use mathlib.Core.Path.{◌≡◌, refl, sym, ap, ◌∙◌}
use mathlib.Core.Bool.{Bool, true, false}
use mathlib.Core.List.{List, [], ◌∷◌}
use mathlib.Core.Logic.{◌≢◌}
use lib.Dec.{ltb}
use borrow.Author.Tests.{eqb-true, ltb-false, not-false}
use Rattle.edition.specs.Limits.{Edition, one, two, most_events}
use Rattle.table.specs.declared.Table.{Table}
use Rattle.decode.specs.Layout.{edition_of}
use Rattle.decode.specs.Decoded.{decoded_as, decoded}
use Rattle.refusals.specs.Lines.{Refused, accepted, by_line, whole, first_line, unless}
use Rattle.refusals.proofs.InRange.{too_many}
use Rattle.refusals.proofs.LineLaws.{whole_here, whole-next}
use Rattle.refusals.proofs.PassedLaws.{refused-first, passed_first, unless-refused}
use Rattle.refusals.proofs.TablePassed.{fewer-passed}
use Rattle.refusals.specs.TableLines.{table_lines_by, table_lines}
use Rattle.block.specs.Reading.{reading_lines, read_refusal, read_table, no_table}
use Rattle.block.proofs.ReadingLaws.{passed-header, passed-edition}
use Rattle.zero_bytes.specs.ZeroBytes.{bytes_not_zero}
use Rattle.encode.specs.Encoded.{encoded}
use Rattle.writer.specs.Writing.{buffer_wrong, writing_lines, write_refusal, written_block}
use Rattle.writer.specs.Fits.{Bytes, TableFits}
use Rattle.writer.proofs.RoundTrip.{round_trip}
use Rattle.round_trip.specs.Trips.{rewriting_lines, rewrite_refusal, rewritten_as, rewritten}

-- a table is written, and what was written is read
module _ (t : Table) (out : List ℕ) where
  abbrev pub Trip : (r : Refused) (u : Table) (after : List ℕ) → Type 0
  Trip r u after = (r ≡ write_refusal t out) × ((u ≡ unless (write_refusal t out) t no_table) × (after ≡ written_block t out))

  -- it was written: reading it gives it back
  pub read-trip : (after : List ℕ) → TableFits t → accepted ≡ write_refusal t out → after ≡ written_block t out →
      (r : Refused) (u : Table) → (r ≡ read_refusal after) × (u ≡ read_table after) → Trip r u after
  read-trip after f ok w r u h =
      let back = round_trip.read_back t out f (sym ok) in
      (h.0 ∙ ap read_refusal w ∙ back.0 ∙ ok, (h.1 ∙ ap read_table w ∙ back.1 ∙ ap (λ (q : Refused). unless q t no_table) ok, w))

  -- it was refused
  pub refused-trip : (q : Refused) (after : List ℕ) → q ≡ write_refusal t out → after ≡ written_block t out →
      (r : Refused) (u : Table) → (r ≡ q) × (u ≡ unless q t no_table) → Trip r u after
  refused-trip q after e w r u h = (h.0 ∙ e, (h.1 ∙ ap (λ (x : Refused). unless x t no_table) e, w))

-- without a refusal the table is the one that the bytes stand for
table_is : (s : List ℕ) → read_refusal s ≡ accepted → read_table s ≡ decoded s
unfolding read_table
table_is s h = ap (λ (r : Refused). unless r (decoded s) no_table) h

-- edition 1 has room for the table: no line refuses it
few-passed : (s : List ℕ) → read_refusal s ≡ accepted → ltb (most_events one) (decoded s).count ≡ false
    → first_line (decoded s).count (table_lines (most_events one) false (decoded s)) ≡ accepted
unfolding decoded
few-passed s ok h =
    let e = edition_of s in
    fewer-passed (most_events e) (most_events one) (bytes_not_zero e s) (decoded_as e s) (passed-edition e s (passed-header s ok).1).1 (ltb-false (most_events one) (decoded s).count h)

-- the writer's refusal of a table that fits the buffer
many-refused : (t : Table) (out : List ℕ) → buffer_wrong out ≡ false → ltb (most_events one) t.count ≡ true → write_refusal t out ≡ by_line 5
unfolding write_refusal writing_lines table_lines table_lines_by
many-refused t out b h = sym (whole-next _ _ _ _ _ b (whole_here _ _ _ _ (too_many (most_events one) t h)))

few-accepted : (t : Table) (out : List ℕ) → buffer_wrong out ≡ false → first_line t.count (table_lines (most_events one) false t) ≡ accepted
    → write_refusal t out ≡ accepted
unfolding write_refusal writing_lines
few-accepted t out b h = sym (whole-next _ _ _ _ _ b (sym h))

-- a test is read, and what was read is written
module _ (s out : List ℕ) where
  abbrev pub Rewritten : (r : Refused) (after : List ℕ) → Type 0
  Rewritten r after = (r ≡ rewrite_refusal s out) × (after ≡ unless (rewrite_refusal s out) (rewritten s) out)

  -- reading refuses
  pub refused-rewrite : (q : Refused) → q ≡ read_refusal s → q ≢ accepted → Rewritten q out
  unfolding rewrite_refusal read_refusal
  refused-rewrite q e n =
      let same = sym (refused-first (decoded s).count (reading_lines s) (rewriting_lines s out) (λ h. n (e ∙ h))) in
      (e ∙ same, sym (unless-refused q (rewritten s) out n) ∙ ap (λ (r : Refused). unless r (rewritten s) out) (e ∙ same))

  -- it doesn't: only the buffer's length and the number of events can
  own : read_refusal s ≡ accepted → rewrite_refusal s out ≡ first_line (decoded s).count (rewriting_lines s out)
  unfolding rewrite_refusal read_refusal
  own ok = passed_first (decoded s).count (reading_lines s) (rewriting_lines s out) ok

  -- what is written of a table that edition 1 has room for
  written : Bytes s → read_refusal s ≡ accepted → buffer_wrong out ≡ false → write_refusal (read_table s) out ≡ accepted
      → written_block (read_table s) out ≡ rewritten s
  unfolding rewritten written_block
  written f ok b h = go (edition_of s) refl
    where
      go : (e : Edition) → edition_of s ≡ e → written_block (read_table s) out ≡ rewritten_as e s
      go one e = (round_trip.written_back s out f (eqb-true _ _ (not-false _ b)) e ok).1
      go two e = ap (λ (r : Refused). unless r (encoded (read_table s)) out) h ∙ ap encoded (table_is s ok)

  -- the write is refused by line 1, by line 5, or not at all
  both : Bytes s → read_refusal s ≡ accepted → (a b : Bool) → buffer_wrong out ≡ a → ltb (most_events one) (decoded s).count ≡ b →
      (write_refusal (read_table s) out ≡ first_line (decoded s).count (whole 1 a ∷ whole 5 b ∷ []))
      × (written_block (read_table s) out ≡ unless (first_line (decoded s).count (whole 1 a ∷ whole 5 b ∷ [])) (rewritten s) out)
  unfolding write_refusal writing_lines written_block first_line
  both f ok true b e h =
      let r : write_refusal (read_table s) out ≡ by_line 1 = sym (whole_here _ 1 (buffer_wrong out) (table_lines (most_events one) false (read_table s)) e) in
      (r, ap (λ (q : Refused). unless q (encoded (read_table s)) out) r)
  both f ok false true e h =
      let r = ap (λ (t : Table). write_refusal t out) (table_is s ok) ∙ many-refused (decoded s) out e h in
      (r, ap (λ (q : Refused). unless q (encoded (read_table s)) out) r)
  both f ok false false e h =
      let r = ap (λ (t : Table). write_refusal t out) (table_is s ok) ∙ few-accepted (decoded s) out e (few-passed s ok h) in
      (r, written f ok e r)

  pub rewrite-trip : Bytes s → read_refusal s ≡ accepted → (t : Table) → t ≡ read_table s → (r : Refused) (after : List ℕ) →
      (r ≡ write_refusal t out) × (after ≡ written_block t out) → Rewritten r after
  rewrite-trip f ok t e r after h =
      let b = both f ok (buffer_wrong out) (ltb (most_events one) (decoded s).count) refl refl in
      let l = sym (own ok) in (
        h.0 ∙ ap (λ (u : Table). write_refusal u out) e ∙ b.0 ∙ l,
        h.1 ∙ ap (λ (u : Table). written_block u out) e ∙ b.1 ∙ ap (λ (q : Refused). unless q (rewritten s) out) l,
      )
