use borrow.Author.Tests.{lt-ltb, le-ltb}
use Rattle.model.specs.Witness.{is_memory_event}
use Rattle.table.proofs.EventTests.{of_events}
use Rattle.candidate.proofs.is_memory_event.Goals as goal

pub returns-then-e-t : goal.returns-then-e-t
unfolding is_memory_event of_events
returns-then-e-t c = rw (lt-ltb _ _ c.if-e-t.true) c.memory.ensures

pub returns-else-e-t : goal.returns-else-e-t
unfolding is_memory_event
returns-else-e-t c = rw (le-ltb _ _ c.if-e-t.false)
