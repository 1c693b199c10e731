use Prim.Native.Nat.{◌<◌}
use lib.ListN.{get_or, take}
use Rattle.table.specs.Events.{capacity}
use Rattle.model.specs.Witness.{witness}
use Rattle.order_test.proofs.PassLaws.{witness_at, witness-each, witness-ends, witness-told}
use Rattle.order_test.proofs.PassLaws.{item-room, placed-start, item-placed, good_start, good-next}
use Rattle.order_test.proofs.PassLaws.{pass-start, pass-more, pass-fails, pass-end}
use Rattle.order_test.proofs.is_witness.Goals as goal
use Rattle.order_test.proofs.is_witness.Goals.{In-loop-e}

-- the entry has room in a mask
room : (c : In-loop-e) → get_or (take c.args.len c.args.order.now) c.loop-e.e-index 0 < capacity
room c = item-room c.args.facts.now c.args.order.now c.args.len c.requires _ c.loop-e-test.true

pub ends_well-requires : goal.ends_well-requires
ends_well-requires c = c.requires

pub returns-then-not-ends_well : goal.returns-then-not-ends_well
returns-then-not-ends_well c = witness-ends c.args.facts.now c.args.order.now c.args.len _ c.ends_well.ensures c.if-not-ends_well.true

pub loop-e-init : goal.loop-e-init
loop-e-init c = (
  placed-start c.args.facts.now c.args.order.now c.args.len,
  good_start c.args.facts.now c.args.order.now c.args.len,
  pass-start c.args.facts.now c.args.order.now c.args.len witness_at,
)

pub may_stand-requires : goal.may_stand-requires
may_stand-requires c = room (goal.at.may_stand-requires c).In-loop-e

pub returns-then-not-may_stand : goal.returns-then-not-may_stand
returns-then-not-may_stand c = let inv = c.loop-e.invariant in
    pass-fails c.args.facts.now c.args.order.now c.args.len witness_at witness
    (witness-each c.args.facts.now c.args.order.now c.args.len _ c.ends_well.ensures
    c.if-not-ends_well.false)
    _ _ c.loop-e-test.true
    (witness-told c.args.facts.now c.args.order.now c.args.len c.requires _ c.loop-e-test.true _ _ _ inv.0 inv.1
    c.may_stand.ensures)
    c.if-not-may_stand.true

pub one-placed-requires : goal.one-placed-requires
one-placed-requires c = rw c.from.ensures (room (goal.at.one-placed-requires c).In-loop-e)

pub good_after-good-requires : goal.good_after-good-requires
good_after-good-requires c = room (goal.at.good_after-good-requires c).In-loop-e

pub loop-e-preserved : goal.loop-e-preserved
loop-e-preserved c = let inv = c.loop-e.invariant in
    let l = c.loop-e-test.true in (
      item-placed c.args.facts.now c.args.order.now c.args.len c.requires _ l _ _ inv.0 (rw c.from.ensures at c.one-placed.ensures),
      good-next c.args.facts.now c.args.order.now c.args.len c.requires _ l _ _ inv.1 c.good_after-good.ensures,
      pass-more c.args.facts.now c.args.order.now c.args.len witness_at _ _ inv.2
          (witness-told c.args.facts.now c.args.order.now c.args.len c.requires _ l _ _ _ inv.0 inv.1
          c.may_stand.ensures)
          c.if-not-may_stand.false,
    )

pub returns : goal.returns
returns c = pass-end c.args.facts.now c.args.order.now c.args.len witness_at witness
    (witness-each c.args.facts.now c.args.order.now c.args.len _ c.ends_well.ensures
    c.if-not-ends_well.false)
    c.loop-e.e-index c.loop-e-test.false c.loop-e.invariant.2
