use mathlib.Core.Path.{refl}
use native.Mathlib.Omega.{arith}
use Rattle.lists.proofs.ScanLaws.{scan-start, scan-more, scan-hit, scan-end}
use Rattle.atomicity.proofs.lowest_intruder.Goals as goal

pub loop-w-init : goal.loop-w-init
loop-w-init c = scan-start _ _

pub returns-then-intrudes : goal.returns-then-intrudes
returns-then-intrudes c = let v = c.loop-w in
    rw (scan-hit _ _ _ v.invariant (omega arith) (rw c.intrudes.ensures at c.if-intrudes.true)) (omega arith, refl)

pub loop-w-preserved : goal.loop-w-preserved
loop-w-preserved c = let v = c.loop-w in
    scan-more _ _ _ v.invariant (omega arith) (rw c.intrudes.ensures at c.if-intrudes.false)

pub returns : goal.returns
returns c = rw (scan-end _ _ _ c.loop-w.invariant (omega arith)) (λ h. absurd (omega arith))
