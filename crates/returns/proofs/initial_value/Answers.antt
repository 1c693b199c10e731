use Rattle.model.specs.Returns.{initial_value}
use borrow.Author.Rules.{rules}
use Rattle.returns.proofs.initial_value.Goals as goal

pub returns : goal.returns
unfolding initial_value
returns c = search rules
