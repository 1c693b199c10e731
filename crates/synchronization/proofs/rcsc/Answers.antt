use mathlib.Core.Path.{ap₂}
use mathlib.Core.Bool.{◌||◌}
use Rattle.synchronization.proofs.rcsc.Goals as goal

pub returns : goal.returns
returns c = ap₂ ◌||◌ c.annotated.ensures c.annotated-2.ensures
