use mathlib.Core.Path.{ap₂}
use mathlib.Core.Bool.{◌&&◌, ◌||◌}
use Rattle.record_lines.proofs.both_at_once.Goals as goal

pub returns : goal.returns
returns c = rw (c.from.ensures, c.from-2.ensures, c.from-3.ensures, c.from-4.ensures) at
    (ap₂ ◌||◌ (ap₂ ◌&&◌ c.has.ensures c.has-2.ensures) (ap₂ ◌&&◌ c.has-3.ensures c.has-4.ensures))
