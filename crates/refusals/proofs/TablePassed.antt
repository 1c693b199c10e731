-- What a table has that none of lines 5 to 11 refuses, by what line 7 asks of a record: of a block and of a text.
use Prim.Native.Nat.{ℕ, ◌≤◌}
use mathlib.Core.Path.{◌≡◌, sym}
use mathlib.Core.Bool.{Bool, true, false, ◌||◌}
use mathlib.Core.List.{[], ◌∷◌}
use borrow.Author.Tests.{not-false}
use Rattle.lists.specs.Below.{some}
use Rattle.lists.proofs.BoolLaws.{or_off}
use Rattle.table.specs.declared.Table.{Table}
use Rattle.table.specs.Events.{memory}
use Rattle.refusals.specs.Lines.{accepted, first_line}
use Rattle.refusals.specs.TableLines.{line5, line6, line7, line8, line9, line10, line11}
use Rattle.refusals.specs.TableLines.{record_lines_by, table_lines_by, table_lines}
use Rattle.refusals.proofs.LineLaws.{whole-next, whole-off, record-off}
use Rattle.refusals.proofs.PassedLaws.{passed-both}
use Rattle.refusals.proofs.InRange.{InRange, in-range, fewer-in-range}

-- line by line
pub record TablePassed (asked : ℕ → Bool) (most : ℕ) (extra : Bool) (t : Table) : Type 0 where
  pub counts : InRange most t
  pub bytes : extra ≡ false
  pub unused : line6 t ≡ false
  pub fields : some t.count asked ≡ false
  pub annotations : some t.count (line8 t) ≡ false
  pub dependencies : some t.count (line9 t) ≡ false
  pub pairs : some t.count (line10 t) ≡ false
  pub memory : some t.count (memory t) ≡ true

pub table-passed-by : (asked : ℕ → Bool) (most : ℕ) (extra : Bool) (t : Table) →
    first_line t.count (table_lines_by asked most extra t) ≡ accepted → TablePassed asked most extra t
unfolding table_lines_by record_lines_by line11
table-passed-by asked most extra t h =
    let past5 = whole-off t.count 5 (line5 most t) _ h in
    let past6 = whole-off t.count 6 (extra || line6 t) _ past5.1 in
    let past7 = record-off t.count 7 asked _ past6.1 in
    let past8 = record-off t.count 8 (line8 t) _ past7.1 in
    let past9 = record-off t.count 9 (line9 t) _ past8.1 in
    let past10 = record-off t.count 10 (line10 t) _ past9.1 in
    let past11 = whole-off t.count 11 (line11 t) [] past10.1 in
    let six = or_off extra (line6 t) past6.0 in
    record {
      counts = in-range most t past5.0;
      bytes = six.0;
      unused = six.1;
      fields = past7.0;
      annotations = past8.0;
      dependencies = past9.0;
      pairs = past10.0;
      memory = not-false _ past11.0;
    }

-- of a block
pub table-passed : (most : ℕ) (extra : Bool) (t : Table) → first_line t.count (table_lines most extra t) ≡ accepted
    → TablePassed (line7 t) most extra t
unfolding table_lines
table-passed most extra t h = table-passed-by (line7 t) most extra t (passed-both t.count (table_lines_by (line7 t) most extra t) _ h).0

-- it isn't refused where as many events are allowed as it has, and no other bytes are looked at
pub fewer-passed : (most fewer : ℕ) (extra : Bool) (t : Table) → first_line t.count (table_lines most extra t) ≡ accepted → t.count ≤ fewer
    → first_line t.count (table_lines fewer false t) ≡ accepted
unfolding table_lines table_lines_by
fewer-passed most fewer extra t h l =
    let past5 = whole-off t.count 5 (line5 most t) _ h in
    let past6 = whole-off t.count 6 (extra || line6 t) _ past5.1 in
    sym
    (whole-next _ 5 (line5 fewer t) _ _ (fewer-in-range most fewer t past5.0 l)
    (whole-next _ 6 (line6 t) _ _ (or_off extra (line6 t) past6.0).1 (sym past6.1)))
