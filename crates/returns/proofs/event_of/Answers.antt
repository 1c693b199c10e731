use Rattle.table.specs.Events.{event}
use borrow.Author.Rules.{rules}
use Rattle.returns.proofs.event_of.Goals as goal

pub returns : goal.returns
unfolding event
returns c = search rules
