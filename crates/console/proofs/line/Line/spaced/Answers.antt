use Rattle.console.proofs.LineLaws.{then}
use Rattle.console.proofs.line.Line.spaced.Goals as goal

pub returns : goal.returns
returns c = then _ _ _ _ _ c.text.ensures c.number.ensures
