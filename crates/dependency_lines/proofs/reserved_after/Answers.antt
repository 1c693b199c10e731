use borrow.Author.Tests.{eq-eqb, ne_eqb}
use Rattle.dependency_lines.specs.Passing.{reserved_after}
use Rattle.dependency_lines.proofs.reserved_after.Goals as goal

pub returns-then-e-eq-LR : goal.returns-then-e-eq-LR
unfolding reserved_after
returns-then-e-eq-LR c = rw (eq-eqb _ _ c.if-e-eq-LR.true, c.from.ensures)

pub returns-then-e-eq-SC : goal.returns-then-e-eq-SC
unfolding reserved_after
returns-then-e-eq-SC c = rw (ne_eqb _ _ c.if-e-eq-LR.false, eq-eqb _ _ c.if-e-eq-SC.true)

pub returns : goal.returns
unfolding reserved_after
returns c = rw (ne_eqb _ _ c.if-e-eq-LR.false, ne_eqb _ _ c.if-e-eq-SC.false)
