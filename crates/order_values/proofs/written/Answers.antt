use Rattle.order_values.specs.ByFacts.{written_by}
use borrow.Author.Rules.{rules}
use Rattle.order_values.proofs.written.Goals as goal

pub returns : goal.returns
unfolding written_by
returns c = search rules
