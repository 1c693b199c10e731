use native.Mathlib.Omega.{arith}
use Rattle.table.proofs.EventTests.{of_events}
use Rattle.masks.proofs.GatherLaws.{gather-start, gather-more, gather-end}
use Rattle.advice.specs.Advice.{clear_fence, clear_fences}
use Rattle.advising.proofs.clear_fences.Goals as goal

pub loop-e-init : goal.loop-e-init
loop-e-init c = gather-start _ _

pub loop-e-preserved : goal.loop-e-preserved
unfolding of_events clear_fence
loop-e-preserved c = gather-more _ _ _ _ _ c.loop-e.invariant (omega arith) c.one_if-mask.ensures

pub returns : goal.returns
unfolding clear_fences
returns c = gather-end _ _ _ _ c.loop-e.invariant (omega arith)
