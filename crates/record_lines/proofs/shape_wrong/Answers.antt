use Rattle.refusals.specs.TableLines.{shape_wrong}
use mathlib.Core.Path.{ap₂}
use mathlib.Core.Bool.{◌||◌}
use Rattle.record_lines.proofs.shape_wrong.Goals as goal

pub returns : goal.returns
unfolding shape_wrong
returns c = ap₂ ◌||◌ (ap₂ ◌||◌ (ap₂ ◌||◌ (ap₂ ◌||◌ c.field_out_of_range.ensures c.value_not_zero.ensures) c.fence_not_zero.ensures) c.operation_out_of_range.ensures) c.operand_not_zero.ensures
