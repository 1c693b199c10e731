use Prim.Native.Nat.{◌<◌}
use native.Mathlib.Omega.{arith}
use lib.ListN.{get_or, take, length-take}
use Rattle.table.specs.Events.{capacity}
use Rattle.order_test.proofs.PassLaws.{item-room}
use Rattle.order_values.proofs.WordLaws.{fitting-first}
use Rattle.order_values.proofs.AlongLaws.{along-start, along-none, along-end, along-more}
use Rattle.order_values.proofs.left_values.Goals as goal
use Rattle.order_values.proofs.left_values.Goals.{In-loop-i}

-- entry i, which is told, has room in a mask
room : (c : In-loop-i) → get_or (take c.args.len c.args.order.now) c.loop-i.i 0 < capacity
room c = item-room c.args.facts.now c.args.order.now c.args.len c.requires _ c.loop-i-test.true

pub returns-then-facts-eq0 : goal.returns-then-facts-eq0
returns-then-facts-eq0 c = along-none c.args.facts.now c.args.order.now c.args.len c.if-facts-eq0.true

pub loop-i-init : goal.loop-i-init
loop-i-init c = along-start c.args.facts.now c.args.order.now c.args.len

pub left_by-requires : goal.left_by-requires
left_by-requires c = (fitting-first c.args.order.now c.args.len _ c.requires (omega (arith, c.loop-i-test.true, length-take c.args.len c.args.order.now)), room (goal.at.left_by-requires c).In-loop-i)

pub bounds-left-e : goal.bounds-left-e
bounds-left-e c = room (goal.at.bounds-left-e c).In-loop-i

pub loop-i-preserved : goal.loop-i-preserved
loop-i-preserved c = let v = c.loop-i in
    along-more c.args.facts.now c.args.order.now c.args.len c.requires v.i c.loop-i-test.true v.left v.invariant _ c.left_by.ensures

pub returns : goal.returns
returns c = let v = c.loop-i in
    along-end c.args.facts.now c.args.order.now c.args.len v.i v.left (omega (arith, length-take c.args.len c.args.order.now)) v.invariant
