use mathlib.Core.Path.{ap₂}
use mathlib.Core.Bool.{◌||◌}
use Rattle.record_lines.proofs.acquires.Goals as goal

pub returns : goal.returns
returns c = rw (c.from.ensures, c.from-2.ensures) at (ap₂ ◌||◌ c.has.ensures c.has-2.ensures)
