use mathlib.Core.Path.{sym, ◌∙◌}
use Rattle.successors.specs.CleanMasks.{ready}
use Rattle.successors.proofs.SiftLaws.{sift-start, sift-take, sift-skip, sift-end}
use Rattle.ready_events.proofs.ready_of.Goals as goal

pub loop-k-init : goal.loop-k-init
loop-k-init c = rw c.into_iter-k-iterator.ensures.into_iter_gives (sift-start _ c.ranges.rest.fits)

pub loop-k-preserved-then-within : goal.loop-k-preserved-then-within
unfolding ready
loop-k-preserved-then-within c = sift-take c.loop-k.invariant c.in-Some.ensures.steps c.one-found.ensures
    (sym c.within.ensures ∙ c.if-within.true)

pub loop-k-preserved : goal.loop-k-preserved
unfolding ready
loop-k-preserved c = sift-skip c.loop-k.invariant c.in-Some.ensures.steps (sym c.within.ensures ∙ c.if-within.false)

pub returns : goal.returns
returns c = sift-end c.loop-k.invariant c.in-None.ensures.steps.0
