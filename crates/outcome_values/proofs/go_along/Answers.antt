use native.Mathlib.Omega.{arith}
use lib.ListN.{length-take}
use Rattle.order_test.proofs.PassLaws.{item-room}
use Rattle.outcome_values.proofs.AlongLaws.{tell-start, tell-more, tell-returns, tell-ends}
use Rattle.outcome_values.proofs.go_along.Goals as goal

pub loop-e-init : goal.loop-e-init
loop-e-init c = tell-start _ _ _ _ _ _ c.requires.1 c.requires.2

pub bounds-facts-e : goal.bounds-facts-e
bounds-facts-e c = item-room c.args.facts.now c.args.order.now c.args.len c.requires.0 _ c.loop-e-test.true

pub value_now-requires : goal.value_now-requires
value_now-requires c = (item-room c.args.facts.now c.args.order.now c.args.len c.requires.0 _ c.loop-e-test.true, c.place-x.ensures.1)

pub bounds-returned-e : goal.bounds-returned-e
bounds-returned-e c = item-room c.args.facts.now c.args.order.now c.args.len c.requires.0 _ c.loop-e-test.true

pub note_write-requires : goal.note_write-requires
note_write-requires c = (item-room c.args.facts.now c.args.order.now c.args.len c.requires.0 _ c.loop-e-test.true, c.place-x.ensures.1)

pub one-placed-requires : goal.one-placed-requires
one-placed-requires c = rw c.from.ensures (item-room c.args.facts.now c.args.order.now c.args.len c.requires.0 _ c.loop-e-test.true)

pub loop-e-preserved : goal.loop-e-preserved
loop-e-preserved c = let v = c.loop-e in
    tell-more _ _ _ _ c.requires.0 v.e-index c.loop-e-test.true v.placed v.returned v.at v.invariant _
    c.place-x.ensures.0 _ _ _ c.value_now.ensures c.note_write.ensures (rw c.from.ensures at c.one-placed.ensures)

pub returns : goal.returns
returns c = let v = c.loop-e in record { returns_in = tell-returns _ _ _ _ v.e-index v.placed _ v.at (omega (arith, length-take c.args.len c.args.order.now)) v.invariant; ends_in = tell-ends _ _ _ _ v.e-index v.placed v.returned _ (omega (arith, length-take c.args.len c.args.order.now)) v.invariant }
