use mathlib.Core.Path.{refl}
use native.Mathlib.Omega.{arith}
use Rattle.lists.proofs.ScanLaws.{scan-start, scan-more, scan-hit, scan-end}
use Rattle.stated_values.proofs.lowest_value_read.Goals as goal

pub loop-r-init : goal.loop-r-init
loop-r-init c = scan-start _ _

pub returns-then-breaks_value_read : goal.returns-then-breaks_value_read
returns-then-breaks_value_read c = let v = c.loop-r in
    rw (scan-hit _ _ _ v.invariant (omega arith) (rw c.breaks_value_read.ensures at c.if-breaks_value_read.true)) (omega arith, refl)

pub loop-r-preserved : goal.loop-r-preserved
loop-r-preserved c = let v = c.loop-r in
    scan-more _ _ _ v.invariant (omega arith) (rw c.breaks_value_read.ensures at c.if-breaks_value_read.false)

pub returns : goal.returns
returns c = rw (scan-end _ _ _ c.loop-r.invariant (omega arith)) (λ h. absurd (omega arith))
