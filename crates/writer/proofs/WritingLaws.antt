-- What writing gives once the refusal is known.
use Prim.Native.Nat.{ℕ}
use mathlib.Core.Path.{◌≡◌, refl, ap, ◌∙◌}
use mathlib.Core.Bool.{false, not}
use mathlib.Core.List.{List}
use lib.ListN.{length}
use borrow.Author.Tests.{eq-eqb, ne_eqb}
use Rattle.edition.specs.Limits.{one, block_length, most_events}
use Rattle.table.specs.declared.Table.{Table}
use Rattle.refusals.specs.Lines.{Refused, by_line, first_line, unless}
use Rattle.refusals.specs.TableLines.{table_lines}
use Rattle.refusals.proofs.LineLaws.{whole_here, whole-next}
use Rattle.encode.specs.Encoded.{encoded}
use Rattle.writer.specs.Writing.{writing_lines, write_refusal, written_block}

-- a refusal and a buffer are those of a table and the buffer that it was lent
abbrev pub Writes : Table → List ℕ → Refused → List ℕ → Type 0
Writes t out r now = (r ≡ write_refusal t out) × (now ≡ written_block t out)

writes : (t : Table) (out : List ℕ) (r : Refused) (now : List ℕ) → r ≡ write_refusal t out → now ≡ unless r (encoded t) out → Writes t out r now
unfolding written_block
writes t out r now e h = (e, h ∙ ap (λ (q : Refused). unless q (encoded t) out) e)

-- The buffer has another length: the number, and the buffer left alone.
module _ (t : Table) (out : List ℕ) (h : length out ≡ block_length → ⊥) where
  pub refused-short : by_line 1 ≡ write_refusal t out
  unfolding write_refusal writing_lines
  refused-short = whole_here _ _ _ _ (ap not (ne_eqb _ _ h))

  pub left-short : out ≡ written_block t out
  left-short = (writes t out (by_line 1) out refused-short refl).1

-- it has 512 bytes: lines 5 to 11 decide
pub writes-whole : (t : Table) (out : List ℕ) (r : Refused) (now : List ℕ) → length out ≡ block_length → r ≡ first_line t.count (table_lines (most_events one) false t)
    → now ≡ unless r (encoded t) out → Writes t out r now
unfolding write_refusal writing_lines
writes-whole t out r now h e f = writes t out r now (whole-next _ _ _ _ _ (ap not (eq-eqb _ _ h)) e) f
