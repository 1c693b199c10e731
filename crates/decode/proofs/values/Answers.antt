use borrow.Author.Rules.{rules}
use Rattle.decode.proofs.FromFnLaws.{from_fn-same}
use Rattle.decode.proofs.values.Goals as goal

pub returns : goal.returns
returns c = from_fn-same _ _ _ _ 0 _ (λ j y q w. search rules) c.from_fn.ensures.items
