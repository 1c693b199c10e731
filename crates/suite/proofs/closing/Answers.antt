use Rattle.console.proofs.LineLaws.{then}
use Rattle.suite.proofs.SuiteLaws.{last_line}
use Rattle.suite.proofs.closing.Goals as goal

pub returns : goal.returns
returns c = last_line _ _ _ c.output.ensures (then _ _ _ _ _ c.number.ensures c.text.ensures)
