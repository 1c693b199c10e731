use Rattle.console.proofs.LineLaws.{then}
use Rattle.suite.proofs.visited.Goals as goal

pub returns : goal.returns
returns c = then _ _ _ _ _ c.number.ensures c.text.ensures
