use mathlib.Core.Path.{ap₂}
use mathlib.Core.Bool.{◌||◌}
use Rattle.table.proofs.memory.Goals as goal

pub returns : goal.returns
returns c = ap₂ ◌||◌ c.reads.ensures c.writes.ensures
