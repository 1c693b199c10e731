use mathlib.Core.Path.{refl}
use native.Mathlib.Omega.{arith}
use Rattle.lists.proofs.ScanLaws.{scan-start, scan-more, scan-hit, scan-end}
use Rattle.table.proofs.EventTests.{of_events}
use Rattle.steps.proofs.first_of.Goals as goal

pub loop-e-init : goal.loop-e-init
loop-e-init c = scan-start _ _

pub returns-then-from-h : goal.returns-then-from-h
unfolding of_events
returns-then-from-h c = let v = c.loop-e in
    rw (scan-hit _ _ _ v.invariant (omega arith) (rw (c.from.ensures, c.has.ensures) at c.if-from-h.true)) (omega arith, refl)

pub loop-e-preserved : goal.loop-e-preserved
unfolding of_events
loop-e-preserved c = let v = c.loop-e in
    scan-more _ _ _ v.invariant (omega arith) (rw (c.from.ensures, c.has.ensures) at c.if-from-h.false)

pub returns : goal.returns
returns c = rw (scan-end _ _ _ c.loop-e.invariant (omega arith)) (λ h. absurd (omega arith))
