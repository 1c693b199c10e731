use mathlib.Core.Path.{ap₂}
use mathlib.Core.Bool.{◌||◌}
use Rattle.record_lines.proofs.text_line7.Goals as goal

pub returns : goal.returns
returns c = ap₂ ◌||◌ c.shape_wrong.ensures c.value_stated.ensures
