use mathlib.Core.Path.{sym, ◌∙◌}
use Rattle.lists.proofs.BoolLaws.{and-taken, and_left}
use Rattle.model.specs.Rules.{rule13}
use Rattle.pipeline.specs.Between.{addresses}
use Rattle.table.proofs.EventTests.{of_events}
use Rattle.pipeline.proofs.rule13.Goals as goal

pub returns-then-writes : goal.returns-then-writes
unfolding rule13 addresses of_events
returns-then-writes c = c.some_addresses.ensures ∙ and-taken _ _ (sym c.writes.ensures ∙ c.if-writes.true)

pub returns-else-writes : goal.returns-else-writes
unfolding rule13 of_events
returns-else-writes c = and_left _ _ (sym c.writes.ensures ∙ c.if-writes.false)
