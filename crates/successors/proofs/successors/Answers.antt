use native.Mathlib.Omega.{arith}
use Rattle.successors.proofs.WaitLaws.{tell-start, tell-more, tell-end}
use Rattle.successors.proofs.successors.Goals as goal

pub loop-k-init : goal.loop-k-init
loop-k-init c = rw c.into_iter-k-iterator.ensures.into_iter_gives (tell-start (omega (arith, c.requires)))

pub loop-k-preserved : goal.loop-k-preserved
loop-k-preserved c = tell-more c.loop-k.invariant c.in-Some.ensures.steps c.add_waiting.ensures

pub returns : goal.returns
returns c = tell-end c.loop-k.invariant c.requires c.in-None.ensures.steps.0
