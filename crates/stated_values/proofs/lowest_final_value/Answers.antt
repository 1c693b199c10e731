use mathlib.Core.Path.{refl}
use native.Mathlib.Omega.{arith}
use Rattle.lists.proofs.ScanLaws.{scan-start, scan-more, scan-hit, scan-end}
use Rattle.stated_values.proofs.lowest_final_value.Goals as goal

pub loop-x-init : goal.loop-x-init
loop-x-init c = scan-start _ _

pub returns-then-breaks_final_value : goal.returns-then-breaks_final_value
returns-then-breaks_final_value c = let v = c.loop-x in
    rw (scan-hit _ _ _ v.invariant (omega arith) (rw c.breaks_final_value.ensures at c.if-breaks_final_value.true)) (omega arith, refl)

pub loop-x-preserved : goal.loop-x-preserved
loop-x-preserved c = let v = c.loop-x in
    scan-more _ _ _ v.invariant (omega arith) (rw c.breaks_final_value.ensures at c.if-breaks_final_value.false)

pub returns : goal.returns
returns c = rw (scan-end _ _ _ c.loop-x.invariant (omega arith)) (λ h. absurd (omega arith))
