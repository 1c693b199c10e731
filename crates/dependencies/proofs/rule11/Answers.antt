use mathlib.Core.Path.{ap₂}
use mathlib.Core.Bool.{◌&&◌}
use Rattle.dependencies.proofs.rule11.Goals as goal

pub returns : goal.returns
returns c = ap₂ ◌&&◌ c.writes.ensures c.has.ensures
