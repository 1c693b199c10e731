use native.Mathlib.Omega.{arith}
use mathlib.Core.Path.{◌∙◌}
use lib.ListN.{length-set}
use Rattle.deciding.proofs.TryLaws.{may-event, accepted-may}
use Rattle.deciding.proofs.LeadLaws.{leads-nowhere, leads-last, leads-more}
use Rattle.deciding.proofs.+least_among.Goals as goal

pub step-next-requires : goal.step-next-requires
step-next-requires t c = may-event c.requires.1 c.requires.0 _ c.in-Some.ensures.listed

pub least_among-requires : goal.least_among-requires
least_among-requires t c = (
  omega arith,
  (
    c.requires.0,
    accepted-may _ _ c.accepted-can.ensures,
    omega arith,
    omega (arith, c.requires.3, length-set c.args.order.now c.args.at c.in-Some.e),
  ),
)

pub returns-in_default : goal.returns-in_default
returns-in_default t c = leads-nowhere _ c.in_default.not-Some c.lowest_leading.ensures

pub returns-then-left-gt1 : goal.returns-then-left-gt1
returns-then-left-gt1 t c =
    leads-more (omega (arith, c.requires.3, c.requires.2)) (omega arith)
    (c.least_among.auto.order ∙ length-set c.args.order.now c.args.at c.in-Some.e) c.in-Some.ensures c.requires.1
    c.step-next.ensures c.accepted-can.ensures c.least_among.ensures

pub returns-else-left-gt1 : goal.returns-else-left-gt1
returns-else-left-gt1 t c =
    leads-last (omega (arith, c.requires.3, c.requires.2)) (omega (arith, c.requires.2)) c.in-Some.ensures c.requires.1
