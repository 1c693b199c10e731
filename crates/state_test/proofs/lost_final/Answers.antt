use mathlib.Core.Path.{◌≡◌, refl, ◌∙◌}
use Rattle.masks.proofs.LeftLaws.{left-hit, left-more, left_end}
use Rattle.state_test.proofs.LostLaws.{spoiled, spoiled-by, final-told}
use Rattle.state_test.proofs.lost_final.Goals as goal
use Rattle.state_test.proofs.lost_final.Goals.{After-within}

-- what is told of a writer
told : (c : After-within) → spoiled c.args.facts.now c.args.placed c.in-Some.w ≡ c.within.result
told c = spoiled-by c.args.facts.now c.args.placed c.in-Some.w _ _ c.less.ensures c.within.ensures

pub loop-w-init : goal.loop-w-init
loop-w-init c = rw c.into_iter-w-iterator.ensures.into_iter_gives (c.less-left.type_inv, refl)

pub returns-then-within : goal.returns-then-within
returns-then-within c =
    let s = c.in-Some.ensures.steps in
    final-told _ _ _ c.less-left.ensures _
    (left-hit _ _ _ _ _ c.loop-w.invariant s.some s.lowest (told (goal.at.returns-then-within c).After-within ∙ c.if-within.true))

pub loop-w-preserved : goal.loop-w-preserved
loop-w-preserved c =
    let s = c.in-Some.ensures.steps in
    rw s.rest (left-more _ _ _ _ _ c.loop-w.invariant s.some s.lowest _ refl
    (told (goal.at.loop-w-preserved c).After-within ∙ c.if-within.false))

pub returns : goal.returns
returns c = final-told _ _ _ c.less-left.ensures _ (left_end _ _ _ _ c.loop-w.invariant c.in-None.ensures.steps.0)
