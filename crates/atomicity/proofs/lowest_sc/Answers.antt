use mathlib.Core.Path.{refl}
use native.Mathlib.Omega.{arith}
use Rattle.lists.proofs.ScanLaws.{scan-start, scan-more, scan-hit, scan-end}
use Rattle.atomicity.proofs.lowest_sc.Goals as goal

pub loop-s-init : goal.loop-s-init
loop-s-init c = scan-start _ _

pub returns-then-breaks_pair : goal.returns-then-breaks_pair
returns-then-breaks_pair c = let v = c.loop-s in
    rw (scan-hit _ _ _ v.invariant (omega arith) (rw c.breaks_pair.ensures at c.if-breaks_pair.true)) (omega arith, refl)

pub loop-s-preserved : goal.loop-s-preserved
loop-s-preserved c = let v = c.loop-s in
    scan-more _ _ _ v.invariant (omega arith) (rw c.breaks_pair.ensures at c.if-breaks_pair.false)

pub returns : goal.returns
returns c = rw (scan-end _ _ _ c.loop-s.invariant (omega arith)) (λ h. absurd (omega arith))
