use Rattle.lists.proofs.BoolLaws.{and-taken, and_left}
use Rattle.model.specs.Axioms.{breaks_value_read}
use Rattle.table.proofs.EventTests.{of_events}
use Rattle.stated_values.proofs.breaks_value_read.Goals as goal

pub returns-then-reads : goal.returns-then-reads
unfolding breaks_value_read of_events
returns-then-reads c = rw (c.written_value.ensures, c.returned_from.ensures)
    (and-taken _ _ (rw c.reads.ensures at c.if-reads.true))

pub returns-else-reads : goal.returns-else-reads
unfolding breaks_value_read of_events
returns-else-reads c = and_left _ _ (rw c.reads.ensures at c.if-reads.false)
