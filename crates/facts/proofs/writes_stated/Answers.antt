use mathlib.Core.Path.{ap₂}
use mathlib.Core.Bool.{◌&&◌}
use Rattle.facts.proofs.writes_stated.Goals as goal

pub returns : goal.returns
returns c = ap₂ ◌&&◌ c.writes.ensures c.has.ensures
