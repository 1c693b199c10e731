use mathlib.Core.Path.{ap₂}
use mathlib.Core.Bool.{◌&&◌}
use Rattle.overlap.proofs.rule1.Goals as goal

pub returns : goal.returns
returns c = ap₂ ◌&&◌ c.writes.ensures c.same_location.ensures
