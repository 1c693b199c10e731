use mathlib.Core.Path.{refl}
use native.Mathlib.Omega.{arith}
use Rattle.lists.proofs.ScanLaws.{scan-start, scan-more, scan-hit, scan-end}
use Rattle.stated_values.proofs.lowest_load_value.Goals as goal

pub loop-r-init : goal.loop-r-init
loop-r-init c = scan-start _ _

pub returns-then-breaks_load_value : goal.returns-then-breaks_load_value
returns-then-breaks_load_value c = let v = c.loop-r in
    rw (scan-hit _ _ _ v.invariant (omega arith) (rw c.breaks_load_value.ensures at c.if-breaks_load_value.true)) (omega arith, refl)

pub loop-r-preserved : goal.loop-r-preserved
loop-r-preserved c = let v = c.loop-r in
    scan-more _ _ _ v.invariant (omega arith) (rw c.breaks_load_value.ensures at c.if-breaks_load_value.false)

pub returns : goal.returns
returns c = rw (scan-end _ _ _ c.loop-r.invariant (omega arith)) (λ h. absurd (omega arith))
