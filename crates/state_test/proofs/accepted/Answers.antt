use native.Mathlib.Omega.{arith}
use Rattle.state_test.proofs.AcceptLaws.{test-start, test-more, test-end}
use Rattle.state_test.proofs.accepted.Goals as goal

pub loop-e-init : goal.loop-e-init
loop-e-init c = rw c.into_iter-e-iterator.ensures.into_iter_gives (test-start _ _ c.args.s _ c.less-left.type_inv)

pub overflow_cast-e : goal.overflow_cast-e
overflow_cast-e c = let s = c.in-Some.ensures.steps in omega arith

pub loop-e-preserved : goal.loop-e-preserved
loop-e-preserved c =
    let s = c.in-Some.ensures.steps in
    rw (s.rest, ← c.one.ensures) (test-more _ _ c.args.s _ c.less-left.ensures _ _ _ _ c.loop-e.invariant s.some s.lowest c.one.ensures _
    c.may_follow.ensures _ c.mask_if-can.ensures)

pub returns : goal.returns
returns c = test-end _ _ c.args.s _ c.less-left.ensures _ _ c.loop-e.invariant c.in-None.ensures.steps.0
