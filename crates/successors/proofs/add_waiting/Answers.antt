use Rattle.successors.proofs.WaitLaws.{add-more, add-end}
use Rattle.successors.proofs.add_waiting.Goals as goal

pub bounds-succ-e : goal.bounds-succ-e
bounds-succ-e c = c.in-Some.ensures.steps.fits

pub loop-e-preserved : goal.loop-e-preserved
loop-e-preserved c = add-more c.loop-e.invariant c.in-Some.ensures.steps

pub returns : goal.returns
returns c = add-end c.loop-e.invariant c.one-b.ensures c.in-None.ensures.steps.0
