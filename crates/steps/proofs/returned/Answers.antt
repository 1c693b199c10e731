use borrow.Author.Tests.{eq-eqb, ne_eqb}
use Rattle.table.proofs.EventTests.{of_events}
use Rattle.returns.specs.Writers.{writes_to}
use Rattle.steps.proofs.returned.Goals as goal
use Rattle.steps.proofs.returned.Goals.{in_default-via-in-Some+else-y-ne-AMO, in_default-via-in_default}

pub returns-in-Some : goal.returns-in-Some
unfolding of_events
returns-in-Some c = rw (c.in-Some.is, ne_eqb _ _ c.if-y-ne-AMO.true)

pub returns-in_default : goal.returns-in_default
unfolding of_events writes_to
returns-in_default c = elim c.in_default.branch [ in_default-via-in-Some+else-y-ne-AMO w ↦ rw (w.in-Some.is, eq-eqb _ _ w.if-y-ne-AMO.false) c.last_writer.ensures | in_default-via-in_default w ↦ rw w.in_default.is c.last_writer.ensures ]
