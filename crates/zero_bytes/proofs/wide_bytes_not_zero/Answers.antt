use mathlib.Core.Path.{ap₂}
use mathlib.Core.Bool.{◌||◌}
use Rattle.zero_bytes.specs.ZeroBytes.{bytes_not_zero}
use Rattle.zero_bytes.proofs.wide_bytes_not_zero.Goals as goal

pub returns : goal.returns
unfolding bytes_not_zero
returns c = ap₂ ◌||◌ (ap₂ ◌||◌ (ap₂ ◌||◌ c.bytes_not_zero.ensures c.some_not_zero.ensures)
    c.records_not_zero.ensures) c.later_not_zero.ensures
