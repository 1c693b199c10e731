use native.Mathlib.Omega.{arith}
use mathlib.Core.Path.{refl, sym, subst, ◌∙◌}
use lib.ListN.{get_or, length-set}
use lib.Dec.{ltb}
use Rattle.lists.proofs.BoolLaws.{and_r}
use Rattle.deciding.specs.Deciding.{GoesOn}
use Rattle.deciding.proofs.TryLaws.{may-event, accepted-may}
use Rattle.deciding.proofs.LeadLaws.{goes_end, goes-past, goes-beside, goes-along, goes_back, above-may}
use Rattle.deciding.proofs.+next.Goals as goal

pub returns-then-left-eq0 : goal.returns-then-left-eq0
returns-then-left-eq0 t c = goes_end c.if-left-eq0.true

pub least_among-requires : goal.least_among-requires
least_among-requires t c = (c.requires.0, accepted-may _ _ c.accepted-can.ensures, omega arith, c.requires.1)

pub returns-then-start-at : goal.returns-then-start-at
returns-then-start-at t c = goes-past c.if-start-at.true c.accepted-can.ensures c.least_among.ensures

pub least_among-requires-then-not-is_event : goal.least_among-requires-then-not-is_event
least_among-requires-then-not-is_event t c =
    (c.requires.0, above-may _ _ c.accepted-can.ensures c.above-greater.ensures, omega arith, c.requires.1)

pub returns-then-not-is_event : goal.returns-then-not-is_event
returns-then-not-is_event t c =
    goes-beside (omega arith) refl _ c.accepted-can.ensures c.above-greater.ensures c.is_event.ensures c.if-not-is_event.true
    c.least_among-then-not-is_event.ensures

pub step-behind-requires : goal.step-behind-requires
step-behind-requires t c =
    may-event (accepted-may _ _ c.accepted-can.ensures) c.requires.0 _
    (and_r (ltb (get_or c.args.start.now c.args.at 0) 32) _ (sym c.is_event.ensures ∙ c.if-not-is_event.false))

pub next-requires : goal.next-requires
next-requires t c = (
  omega arith,
  (
    c.requires.0,
    omega (arith, c.requires.1, length-set c.args.order.now c.args.at (get_or c.args.start.now c.args.at 0)),
  ),
)

pub returns-then-next : goal.returns-then-next
returns-then-next t c =
    goes-along (omega arith) refl _ (omega (arith, c.requires.1, c.if-left-eq0.false)) (omega (arith, c.if-left-eq0.false))
    (c.next.auto.order ∙ length-set c.args.order.now c.args.at (get_or c.args.start.now c.args.at 0)) c.accepted-can.ensures
    (and_r (ltb (get_or c.args.start.now c.args.at 0) 32) _ (sym c.is_event.ensures ∙ c.if-not-is_event.false))
    c.step-behind.ensures (subst (GoesOn _ _ _ _ _ _ _ _ _ _) c.if-next.true c.next.ensures)

pub least_among-requires-2 : goal.least_among-requires-2
least_among-requires-2 t c = (
  c.requires.0,
  above-may _ _ c.accepted-can.ensures c.above-greater.ensures,
  omega (arith, c.if-left-eq0.false),
  omega (
    arith,
    c.requires.1,
    c.next.auto.order ∙ length-set c.args.order.now c.args.at (get_or c.args.start.now c.args.at 0),
  ),
)

pub returns : goal.returns
returns t c =
    goes_back (omega (arith, c.if-start-at.false)) refl _ (omega (arith, c.requires.1, c.if-left-eq0.false))
    (c.next.auto.order ∙ length-set c.args.order.now c.args.at (get_or c.args.start.now c.args.at 0)) c.accepted-can.ensures
    c.above-greater.ensures
    (and_r (ltb (get_or c.args.start.now c.args.at 0) 32) _ (sym c.is_event.ensures ∙ c.if-not-is_event.false))
    c.step-behind.ensures (subst (GoesOn _ _ _ _ _ _ _ _ _ _) c.if-next.false c.next.ensures) c.least_among-2.ensures
