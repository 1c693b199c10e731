use Rattle.zero_bytes.specs.ZeroBytes.{bytes_not_zero}
use mathlib.Core.Path.{ap₂}
use mathlib.Core.Bool.{◌||◌}
use Rattle.zero_bytes.proofs.bytes_not_zero.Goals as goal

pub returns : goal.returns
unfolding bytes_not_zero
returns c = ap₂ ◌||◌ c.some_not_zero.ensures c.some_not_zero-2.ensures
