use borrow.Author.Rules.{rules}
use Rattle.table.specs.Events.{no_event}
use Rattle.decode.proofs.FromFnLaws.{from_fn-same}
use Rattle.decode.proofs.events.Goals as goal

pub returns : goal.returns
returns c = from_fn-same _ _ _ _ no_event _ (λ j y q w. search rules) c.from_fn.ensures.items
