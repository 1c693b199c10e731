use mathlib.Core.Path.{refl}
use Rattle.state_test.proofs.UnionLaws.{unite-start, unite-end, unite-more}
use Rattle.state_test.proofs.union.Goals as goal

pub loop-e-init : goal.loop-e-init
loop-e-init c = rw c.into_iter-e-iterator.ensures.into_iter_gives (unite-start _ _ _ c.ranges.of.fits)

pub loop-e-preserved : goal.loop-e-preserved
loop-e-preserved c =
    let s = c.in-Some.ensures.steps in
    rw s.rest (unite-more _ _ _ _ _ _ c.loop-e.invariant s.some s.lowest _ _ refl refl)

pub returns : goal.returns
returns c = unite-end _ _ _ _ _ c.loop-e.invariant c.in-None.ensures.steps.0
