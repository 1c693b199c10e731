use Prim.Native.Nat.{◌<◌}
use native.Mathlib.Omega.{arith}
use lib.ListN.{get_or, take, length-take}
use Rattle.table.specs.Events.{capacity}
use Rattle.witness_walk.proofs.FollowLaws.{follow-start, follow-room, follow-cut, follow-more, follow-end, left-of}
use Rattle.witness_walk.proofs.follow.Goals as goal
use Rattle.witness_walk.proofs.follow.Goals.{Else-not-entered}

-- the next entry has room in a mask
room : (c : Else-not-entered) →
    get_or (take c.args.len c.args.order.now) c.loop-i.i 0 < capacity
room c = follow-room c.requires.0 c.loop-i.invariant.1 c.loop-i-test.true

pub loop-i-init : goal.loop-i-init
loop-i-init c = (omega arith, follow-start c.args.goods.now c.requires.2)

pub returns-then-not-entered : goal.returns-then-not-entered
returns-then-not-entered c = let v = c.loop-i in
    record { follows = follow-cut c.requires.0 v.invariant.1 c.loop-i-test.true 0 c.if-not-entered.true; left_of = (tt, v.invariant.1.long) }

pub enters-entered-requires : goal.enters-entered-requires
enters-entered-requires c = room (goal.at.enters-entered-requires c).Else-not-entered

pub note_good-requires : goal.note_good-requires
note_good-requires c = (c.loop-i.invariant.1.long, omega (arith, c.requires.1, length-take c.args.len c.args.order.now), room (goal.at.note_good-requires c).Else-not-entered)

pub one-placed-requires : goal.one-placed-requires
one-placed-requires c = omega (arith, room (goal.at.one-placed-requires c).Else-not-entered, c.from.ensures)

pub loop-i-preserved : goal.loop-i-preserved
loop-i-preserved c = let v = c.loop-i in (
  omega (arith, length-take c.args.len c.args.order.now),
  follow-more c.requires.0 v.invariant.1 c.loop-i-test.true _ c.if-not-entered.false c.requires.1
      c.enters-entered.ensures c.note_good.ensures (rw c.from.ensures at c.one-placed.ensures),
)

pub returns : goal.returns
returns c = let v = c.loop-i in record { follows = follow-end c.requires.0 v.invariant.1 v.invariant.0 (omega (arith, length-take c.args.len c.args.order.now)) c.mask_if.ensures; left_of = (left-of v.entered c.mask_if.ensures, v.invariant.1.long) }
