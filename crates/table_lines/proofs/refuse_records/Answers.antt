use mathlib.Core.Path.{◌≡◌}
use mathlib.Core.List.{[], ◌∷◌}
use native.Mathlib.Omega.{arith}
use Rattle.refusals.specs.Lines.{Refused, first_line, whole, record_of}
use Rattle.refusals.specs.TableLines.{line9, line10, line11, record_lines_by, record_lines}
use Rattle.refusals.proofs.LineLaws.{whole_here, whole-next, none_here}
use Rattle.table_lines.proofs.MarkedLaws.{none-next, marked_next, marked-here, marked-room, no-memory, some-memory}
use Rattle.table_lines.proofs.refuse_records.Goals as goal
use Rattle.table_lines.proofs.refuse_records.Goals.{Else-marks-ne0-2}

-- lines 7 and 8 hold of no record
past8 : (c : Else-marks-ne0-2) (r : Refused) →
    (let t = c.args.t in
    r ≡ first_line t.count (record_of 9 (line9 t) ∷ record_of 10 (line10 t) ∷ whole 11 (line11 t) ∷ []) →
    r ≡ first_line t.count (record_lines t))
unfolding record_lines record_lines_by
past8 c r h =
    marked_next _ _ _ c.mark_records-marks.ensures.fields_value _ _ _ c.if-marks-ne0.false
    (marked_next _ _ _ c.mark_records-marks.ensures.annotations_value _ _ _ c.if-marks-ne0-2.false h)

pub overflow_cast-result : goal.overflow_cast-result
overflow_cast-result c = record {
  fits = omega (arith, c.lowest_set.ensures, marked-room _ _ _ c.mark_records-marks.ensures.fields_value c.requires c.if-marks-ne0.true);
}

pub returns-then-marks-ne0 : goal.returns-then-marks-ne0
unfolding record_lines record_lines_by
returns-then-marks-ne0 c = marked-here _ _ _ c.mark_records-marks.ensures.fields_value c.requires _ _ _ c.if-marks-ne0.true c.lowest_set.ensures

pub overflow_cast-result-then-marks-ne0-2 : goal.overflow_cast-result-then-marks-ne0-2
overflow_cast-result-then-marks-ne0-2 c = record {
  fits = omega (arith, c.lowest_set-then-marks-ne0-2.ensures, marked-room _ _ _ c.mark_records-marks.ensures.annotations_value c.requires c.if-marks-ne0-2.true);
}

pub returns-then-marks-ne0-2 : goal.returns-then-marks-ne0-2
unfolding record_lines record_lines_by
returns-then-marks-ne0-2 c = marked_next _ _ _ c.mark_records-marks.ensures.fields_value _ _ _ c.if-marks-ne0.false
    (marked-here _ _ _ c.mark_records-marks.ensures.annotations_value c.requires _ _ _ c.if-marks-ne0-2.true c.lowest_set-then-marks-ne0-2.ensures)

pub returns-then-some_may_break : goal.returns-then-some_may_break
returns-then-some_may_break c = past8 (goal.at.returns-then-some_may_break c).Else-marks-ne0-2 _ c.refuse_related.ensures

pub returns-then-marks-eq0 : goal.returns-then-marks-eq0
returns-then-marks-eq0 c = let none = c.some_may_break.ensures c.if-some_may_break.false in
    past8 (goal.at.returns-then-marks-eq0 c).Else-marks-ne0-2 _
    (none-next _ _ _ _ _ none.0 (none-next _ _ _ _ _ none.1
    (whole_here _ _ _ _ (no-memory _ _ c.mark_records-marks.ensures.memory_value c.if-marks-eq0.true))))

pub returns : goal.returns
returns c = let none = c.some_may_break.ensures c.if-some_may_break.false in
    past8 (goal.at.returns c).Else-marks-ne0-2 _
    (none-next _ _ _ _ _ none.0 (none-next _ _ _ _ _ none.1
    (whole-next _ _ _ _ _ (some-memory _ _ c.mark_records-marks.ensures.memory_value c.if-marks-eq0.false) (none_here _))))
