use native.Mathlib.Omega.{arith}
use Rattle.table.specs.Events.{memory_events, memory_mask}
use Rattle.table.proofs.EventTests.{of_events}
use Rattle.masks.proofs.GatherLaws.{gather-start, gather-more, gather-end}
use Rattle.table.proofs.memory_mask.Goals as goal

pub loop-e-init : goal.loop-e-init
loop-e-init c = gather-start _ _

pub loop-e-preserved : goal.loop-e-preserved
unfolding of_events
loop-e-preserved c = gather-more _ _ _ _ _ c.loop-e.invariant (omega arith)
    (rw (c.memory.ensures, c.from.ensures) at c.one_if-mask.ensures)

pub returns : goal.returns
unfolding memory_mask memory_events
returns c = gather-end _ _ _ _ c.loop-e.invariant (omega arith)
