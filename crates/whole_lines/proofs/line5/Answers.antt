use Rattle.refusals.specs.TableLines.{header_wrong}
use mathlib.Core.Path.{refl, ap₂}
use mathlib.Core.Bool.{◌||◌}
use Rattle.whole_lines.proofs.line5.Goals as goal

pub returns : goal.returns
unfolding header_wrong
returns c = let counts = ap₂ ◌||◌ (ap₂ ◌||◌ c.outside.ensures c.outside-2.ensures) c.outside-3.ensures in
    ap₂ ◌||◌ (ap₂ ◌||◌ counts c.states_missing.ensures) refl
