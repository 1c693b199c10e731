use mathlib.Core.Path.{refl}
use native.Mathlib.Omega.{arith}
use borrow.Author.Tests.{ne_eqb}
use Rattle.lists.proofs.ScanLaws.{scan-start, scan-more, scan-hit, scan-end}
use Rattle.table.specs.Events.{kind, event}
use Rattle.model.specs.Axioms.{breaks_atomicity}
use Rattle.atomicity.proofs.AtomicityLaws.{only-lr}
use Rattle.atomicity.proofs.LowestLaws.{found-some}
use Rattle.atomicity.proofs.lowest_lr.Goals as goal

pub loop-l-init : goal.loop-l-init
loop-l-init c = scan-start _ _

pub loop-l-preserved-then-t-l-ne-LR : goal.loop-l-preserved-then-t-l-ne-LR
unfolding kind event
loop-l-preserved-then-t-l-ne-LR c = scan-more _ _ _ c.loop-l.invariant (omega arith) (only-lr _ _ _ _ (ne_eqb _ _ c.if-t-l-ne-LR.true))

pub returns-then-is_some : goal.returns-then-is_some
unfolding breaks_atomicity
returns-then-is_some c = let v = c.loop-l in
    rw (scan-hit _ _ _ v.invariant (omega arith) (rw (c.is_some.ensures, found-some _ _ _ c.lowest_sc.ensures) at c.if-is_some.true)) (omega arith, refl)

pub loop-l-preserved : goal.loop-l-preserved
unfolding breaks_atomicity
loop-l-preserved c = let v = c.loop-l in
    scan-more _ _ _ v.invariant (omega arith) (rw (c.is_some.ensures, found-some _ _ _ c.lowest_sc.ensures) at c.if-is_some.false)

pub returns : goal.returns
returns c = rw (scan-end _ _ _ c.loop-l.invariant (omega arith)) (λ h. absurd (omega arith))
