use native.Mathlib.Omega.{arith}
use mathlib.Core.Path.{refl}
use Rattle.state_test.proofs.LostLaws.{sound-start, sound-hit, sound_more, sound-end}
use Rattle.state_test.proofs.lost_read.Goals as goal

pub loop-r-init : goal.loop-r-init
loop-r-init c = rw c.into_iter-r-iterator.ensures.into_iter_gives (sound-start _ _ c.args.s _ c.less-left.type_inv)

pub overflow_cast-r : goal.overflow_cast-r
overflow_cast-r c = let s = c.in-Some.ensures.steps in omega arith

pub returns-then-not-reads_stated : goal.returns-then-not-reads_stated
returns-then-not-reads_stated c =
    let s = c.in-Some.ensures.steps in
    sound-hit _ _ c.args.s _ _ _ _ c.less.ensures c.union-answered.ensures c.less-2.ensures c.less-left.ensures _ _
    c.loop-r.invariant s.some s.lowest _ c.reads_stated.ensures c.if-not-reads_stated.true

pub loop-r-preserved : goal.loop-r-preserved
loop-r-preserved c =
    let s = c.in-Some.ensures.steps in
    rw s.rest (sound_more _ _ c.args.s _ _ _ _ c.less.ensures c.union-answered.ensures c.less-2.ensures c.less-left.ensures _ _
    c.loop-r.invariant s.some s.lowest _ c.reads_stated.ensures c.if-not-reads_stated.false _ refl)

pub returns : goal.returns
returns c = sound-end _ _ c.args.s _ _ _ _ c.less.ensures c.union-answered.ensures
    c.less-2.ensures c.less-left.ensures _ c.loop-r.invariant c.in-None.ensures.steps.0
