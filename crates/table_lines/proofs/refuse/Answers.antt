use mathlib.Core.Path.{◌≡◌, sym, ◌∙◌}
use mathlib.Core.Bool.{false}
use native.Mathlib.Omega.{arith}
use Rattle.refusals.proofs.InRange.{in-range}
use Rattle.refusals.proofs.LineLaws.{whole_here, whole-next}
use Rattle.refusals.specs.TableLines.{record_lines, table_lines_by, line5, line6}
use Rattle.table_lines.proofs.refuse.Goals as goal
use Rattle.table_lines.proofs.refuse.Goals.{Else-line5}

-- line 5 doesn't hold
past5 : (c : Else-line5) → line5 c.args.most c.args.t ≡ false
unfolding line5
past5 c = sym c.line5.ensures ∙ c.if-line5.false

pub returns-then-line5 : goal.returns-then-line5
unfolding table_lines_by line5
returns-then-line5 c = whole_here _ _ _ _ (sym c.line5.ensures ∙ c.if-line5.true)

pub returns-then-extra-unused : goal.returns-then-extra-unused
unfolding table_lines_by line6
returns-then-extra-unused c = whole-next _ _ _ _ _ (past5 (goal.at.returns-then-extra-unused c).Else-line5)
    (whole_here _ _ _ _
    (rw (c.initial_not_zero.ensures, c.final_not_zero.ensures, c.past_not_blank.ensures) at c.if-extra-unused.true))

pub refuse_events-requires : goal.refuse_events-requires
refuse_events-requires c = let counts = in-range _ _ (past5 (goal.at.refuse_events-requires c).Else-line5) in
    (omega (arith, counts.events), counts.locations)

pub returns : goal.returns
unfolding table_lines_by record_lines line6
returns c = whole-next _ _ _ _ _ (past5 (goal.at.returns c).Else-line5)
    (whole-next _ _ _ _ _
    (rw (c.initial_not_zero.ensures, c.final_not_zero.ensures, c.past_not_blank.ensures) at c.if-extra-unused.false)
    c.refuse_events.ensures)
