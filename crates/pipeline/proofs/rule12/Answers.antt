use mathlib.Core.Path.{sym, ◌∙◌}
use Rattle.lists.proofs.BoolLaws.{and-taken, and_left}
use Rattle.model.specs.Rules.{rule12}
use Rattle.pipeline.specs.Between.{forwards}
use Rattle.table.proofs.EventTests.{of_events}
use Rattle.pipeline.proofs.rule12.Goals as goal

pub returns-then-reads : goal.returns-then-reads
unfolding rule12 forwards of_events
returns-then-reads c = rw c.returned_from.ensures at c.some_forwards.ensures
    ∙ and-taken _ _ (sym c.reads.ensures ∙ c.if-reads.true)

pub returns-else-reads : goal.returns-else-reads
unfolding rule12 of_events
returns-else-reads c = and_left _ _ (sym c.reads.ensures ∙ c.if-reads.false)
