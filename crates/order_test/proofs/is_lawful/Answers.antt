use Prim.Native.Nat.{◌<◌}
use lib.ListN.{get_or, take}
use Rattle.table.specs.Events.{capacity}
use Rattle.model.specs.Witness.{lawful}
use Rattle.placing.specs.Entries.{lawful_at}
use Rattle.order_test.proofs.PassLaws.{lawful-each, placed-start, item-placed, item-room, lawful-told}
use Rattle.order_test.proofs.PassLaws.{pass-start, pass-more, pass-fails, pass-end}
use Rattle.order_test.proofs.is_lawful.Goals as goal
use Rattle.order_test.proofs.is_lawful.Goals.{In-loop-e}

-- the entry has room in a mask
room : (c : In-loop-e) → get_or (take c.args.len c.args.order.now) c.loop-e.e-index 0 < capacity
room c = item-room c.args.facts.now c.args.order.now c.args.len c.requires _ c.loop-e-test.true

pub loop-e-init : goal.loop-e-init
loop-e-init c = (placed-start c.args.facts.now c.args.order.now c.args.len, pass-start c.args.facts.now c.args.order.now c.args.len lawful_at)

pub may_place-requires : goal.may_place-requires
may_place-requires c = room (goal.at.may_place-requires c).In-loop-e

pub returns-then-not-may_place : goal.returns-then-not-may_place
returns-then-not-may_place c = let l = c.loop-e-test.true in
    pass-fails c.args.facts.now c.args.order.now c.args.len lawful_at lawful (lawful-each c.args.facts.now c.args.order.now c.args.len) _ _ l
    (lawful-told c.args.facts.now c.args.order.now c.args.len c.requires _ l _ _ c.loop-e.invariant.0 c.may_place.ensures)
    c.if-not-may_place.true

pub one-placed-requires : goal.one-placed-requires
one-placed-requires c = rw c.from.ensures (room (goal.at.one-placed-requires c).In-loop-e)

pub loop-e-preserved : goal.loop-e-preserved
loop-e-preserved c = let l = c.loop-e-test.true in (
  item-placed c.args.facts.now c.args.order.now c.args.len c.requires _ l _ _ c.loop-e.invariant.0 (rw c.from.ensures at c.one-placed.ensures),
  pass-more c.args.facts.now c.args.order.now c.args.len lawful_at _ _ c.loop-e.invariant.1
      (lawful-told c.args.facts.now c.args.order.now c.args.len c.requires _ l _ _ c.loop-e.invariant.0
      c.may_place.ensures)
      c.if-not-may_place.false,
)

pub returns : goal.returns
returns c = pass-end c.args.facts.now c.args.order.now c.args.len lawful_at lawful (lawful-each c.args.facts.now c.args.order.now c.args.len)
    c.loop-e.e-index c.loop-e-test.false c.loop-e.invariant.1
