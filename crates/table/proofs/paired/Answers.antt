use mathlib.Core.Path.{ap, ◌∙◌}
use mathlib.Core.Bool.{not}
use Rattle.lists.proofs.BoolLaws.{and-taken, and_left}
use Rattle.table.specs.Events.{paired, po, hart, kind, event}
use Rattle.table.proofs.paired.Goals as goal

pub returns-then-program_order-x : goal.returns-then-program_order-x
unfolding paired po hart kind event
returns-then-program_order-x c =
    ap not c.some_reserves.ensures
    ∙ and-taken _ _ (rw (c.program_order.ensures, c.from.ensures, c.from-2.ensures) at c.if-program_order-x.true)

pub returns-else-program_order-x : goal.returns-else-program_order-x
unfolding paired po hart kind event
returns-else-program_order-x c =
    c.if-program_order-x.false
    ∙ and_left _ _ (rw (c.program_order.ensures, c.from.ensures, c.from-2.ensures) at c.if-program_order-x.false)
