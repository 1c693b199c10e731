use mathlib.Core.Path.{ap₂, ◌∙◌}
use mathlib.Core.Bool.{◌||◌}
use Rattle.lists.proofs.BoolLaws.{and-taken, and_left}
use Rattle.returns.proofs.visible.Goals as goal

pub returns-then-writes-same_location : goal.returns-then-writes-same_location
returns-then-writes-same_location c = ap₂ ◌||◌ c.before-then-writes-same_location.ensures c.program_order.ensures
    ∙ and-taken _ _ (rw (c.writes.ensures, c.same_location.ensures) at c.if-writes-same_location.true)

pub returns-else-writes-same_location : goal.returns-else-writes-same_location
returns-else-writes-same_location c = and_left _ _ (rw (c.writes.ensures, c.same_location.ensures) at c.if-writes-same_location.false)
