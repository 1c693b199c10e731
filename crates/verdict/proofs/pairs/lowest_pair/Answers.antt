use native.Mathlib.Omega.{arith}
use Rattle.lists.proofs.ScanLaws.{scan-start, scan-more, scan-end}
use Rattle.table.proofs.EventTests.{of_events}
use Rattle.model.specs.Rules.{may_order}
use Rattle.verdict.proofs.PairLaws.{pair-hit, row-end, cannot-break}
use Rattle.verdict.proofs.pairs.lowest_pair.Goals as goal

pub loop-a-init : goal.loop-a-init
loop-a-init c = scan-start _ _

pub loop-b-init : goal.loop-b-init
loop-b-init c = scan-start _ _

pub loop-b-preserved-then-not-may_order : goal.loop-b-preserved-then-not-may_order
unfolding may_order of_events
loop-b-preserved-then-not-may_order c = let v = c.loop-b in
    scan-more _ _ _ v.invariant (omega arith) (cannot-break _ _ _ _ _ ((rw c.may_order.ensures at c.if-not-may_order.true)))

pub loop-b-preserved : goal.loop-b-preserved
loop-b-preserved c = let v = c.loop-b in
    scan-more _ _ _ v.invariant (omega arith) (rw c.breaks_ppo.ensures at c.if-breaks_ppo.false)

pub loop-a-preserved : goal.loop-a-preserved
loop-a-preserved c = let o = c.loop-a in
    row-end _ _ o.a _ o.invariant (omega arith) c.loop-b.invariant (omega arith)

pub returns-then-breaks_ppo : goal.returns-then-breaks_ppo
returns-then-breaks_ppo c = let v = c.loop-b in
    let o = c.loop-a in
    pair-hit _ _ o.a _ o.invariant (omega arith) v.invariant (omega arith) (rw c.breaks_ppo.ensures at c.if-breaks_ppo.true)

pub returns : goal.returns
returns c = scan-end _ _ _ c.loop-a.invariant (omega arith)
