use mathlib.Core.Path.{ap₂}
use mathlib.Core.Bool.{◌&&◌}
use Rattle.table.proofs.between.Goals as goal

pub returns : goal.returns
returns c = ap₂ ◌&&◌ c.program_order.ensures c.program_order-2.ensures
