use Rattle.lists.proofs.BoolLaws.{and-taken, and_left}
use Rattle.model.specs.Axioms.{breaks_load_value}
use Rattle.table.proofs.EventTests.{of_events}
use Rattle.stated_values.proofs.breaks_load_value.Goals as goal

pub returns-then-reads : goal.returns-then-reads
unfolding breaks_load_value of_events
returns-then-reads c = rw (c.returned_from.ensures, c.return_of.ensures)
    (and-taken _ _ (rw c.reads.ensures at c.if-reads.true))

pub returns-else-reads : goal.returns-else-reads
unfolding breaks_load_value of_events
returns-else-reads c = and_left _ _ (rw c.reads.ensures at c.if-reads.false)
