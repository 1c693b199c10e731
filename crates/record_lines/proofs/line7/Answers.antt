use Rattle.refusals.specs.TableLines.{fields_wrong}
use mathlib.Core.Path.{ap₂}
use mathlib.Core.Bool.{◌||◌}
use Rattle.record_lines.proofs.line7.Goals as goal

pub returns : goal.returns
unfolding fields_wrong
returns c = ap₂ ◌||◌ c.shape_wrong.ensures c.not_applied.ensures
