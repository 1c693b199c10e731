use Rattle.refusals.specs.TableLines.{fence_not_zero}
use mathlib.Core.Path.{refl, ap₂}
use mathlib.Core.Bool.{◌&&◌, ◌||◌}
use Rattle.record_lines.proofs.fence_not_zero.Goals as goal

pub returns : goal.returns
unfolding fence_not_zero
returns c = ap₂ ◌||◌ (ap₂ ◌&&◌ c.fences.ensures refl) refl
