use Rattle.table.proofs.EventTests.{of_events}
use Rattle.atomicity.proofs.AtomicityLaws.{intrudes-taken, intrudes-left}
use Rattle.atomicity.proofs.intrudes.Goals as goal

pub returns-then-writes-same_location : goal.returns-then-writes-same_location
unfolding of_events
returns-then-writes-same_location c = rw (c.before-then-writes-same_location-2.ensures, c.before-then-writes-same_location.ensures, c.returned_from-f.ensures)
    (intrudes-taken _ _ _ _ _ _ (rw (c.writes.ensures, c.same_location.ensures) at c.if-writes-same_location.true))

pub returns-else-writes-same_location : goal.returns-else-writes-same_location
unfolding of_events
returns-else-writes-same_location c = intrudes-left _ _ _ _ _ _ (rw (c.writes.ensures, c.same_location.ensures) at c.if-writes-same_location.false)
