use Rattle.refusals.specs.TableLines.{value_not_zero}
use mathlib.Core.Path.{refl, ap, ap₂}
use mathlib.Core.Bool.{◌&&◌, ◌||◌, not}
use Rattle.record_lines.proofs.value_not_zero.Goals as goal

pub returns : goal.returns
unfolding value_not_zero
returns c = ap₂ ◌||◌ (ap₂ ◌&&◌ (ap not c.reads.ensures) refl) (ap₂ ◌&&◌ (ap not c.writes.ensures) refl)
