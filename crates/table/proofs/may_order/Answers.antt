use mathlib.Core.Path.{ap₂}
use mathlib.Core.Bool.{◌&&◌}
use Rattle.table.proofs.may_order.Goals as goal

pub returns : goal.returns
returns c = ap₂ ◌&&◌ (ap₂ ◌&&◌ c.program_order.ensures c.memory.ensures) c.memory-2.ensures
