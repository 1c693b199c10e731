use Rattle.console.proofs.LineLaws.{then}
use Rattle.console.proofs.line.Line.item.Goals as goal

pub returns : goal.returns
returns c = rw (← c.from.ensures) (then _ _ _ _ _ c.text.ensures c.number.ensures)
