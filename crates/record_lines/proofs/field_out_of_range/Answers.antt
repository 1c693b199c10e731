use Rattle.refusals.specs.TableLines.{field_out_of_range}
use mathlib.Core.Path.{refl, ap₂}
use mathlib.Core.Bool.{◌||◌}
use Rattle.record_lines.proofs.field_out_of_range.Goals as goal

pub returns : goal.returns
unfolding field_out_of_range
returns c = ap₂ ◌||◌ (ap₂ ◌||◌ (ap₂ ◌||◌ c.outside.ensures refl) refl) refl
