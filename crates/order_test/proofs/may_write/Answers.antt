use mathlib.Core.Path.{refl, sym, ◌∙◌}
use Rattle.masks.proofs.LeftLaws.{left-hit, left-more, left_end}
use Rattle.order_test.proofs.TellLaws.{tell-barring}
use Rattle.order_test.proofs.may_write.Goals as goal

pub loop-v-init : goal.loop-v-init
loop-v-init c = rw c.into_iter-v-iterator.ensures.into_iter_gives (c.less-guards.type_inv, refl)

pub returns-then-is_open : goal.returns-then-is_open
returns-then-is_open c =
    let s = c.in-Some.ensures.steps in
    tell-barring _ _ _ _ _ c.less-guards.ensures
    (left-hit _ _ _ _ _ c.loop-v.invariant s.some s.lowest (sym c.is_open.ensures ∙ c.if-is_open.true))

pub loop-v-preserved : goal.loop-v-preserved
loop-v-preserved c =
    let s = c.in-Some.ensures.steps in
    rw s.rest (left-more _ _ _ _ _ c.loop-v.invariant s.some s.lowest _ refl (sym c.is_open.ensures ∙ c.if-is_open.false))

pub returns : goal.returns
returns c = tell-barring _ _ _ _ _ c.less-guards.ensures (left_end _ _ _ _ c.loop-v.invariant c.in-None.ensures.steps.0)
