use mathlib.Core.Path.{ap₂}
use mathlib.Core.Bool.{◌&&◌}
use Rattle.synchronization.proofs.rule7.Goals as goal

pub returns : goal.returns
returns c = ap₂ ◌&&◌ c.rcsc.ensures c.rcsc-2.ensures
