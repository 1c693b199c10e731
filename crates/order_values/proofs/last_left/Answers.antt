use mathlib.Core.Path.{sym, subst, ◌∙◌}
use lib.ListN.{get_or}
use Rattle.lists.proofs.LastLaws.{behind_more}
use Rattle.table.specs.Events.{capacity}
use Prim.Native.Nat.{◌-◌, ◌<◌}
use native.Mathlib.Omega.{arith}
use Rattle.order_values.proofs.EndLaws.{Unwritten, end-hit, end_none}
use Rattle.order_test.proofs.PassLaws.{entry-room}
use Rattle.order_values.proofs.last_left.Goals as goal
use Rattle.order_values.proofs.last_left.Goals.{In-loop-i}

-- the entry has room in a mask
room : (c : In-loop-i) →
    get_or c.args.order.now (c.loop-i.i - 1) 0 < capacity
room c =
    let v = c.loop-i in
    entry-room c.args.facts.now c.args.order.now c.args.len c.requires.0 (v.i - 1)
    (omega (arith, v.invariant.0, c.loop-i-test.true))

pub has-requires : goal.has-requires
has-requires c = rw c.from.ensures (room (goal.at.has-requires c).In-loop-i)

pub bounds-left-w : goal.bounds-left-w
bounds-left-w c = room (goal.at.bounds-left-w c).In-loop-i

pub returns-then-has : goal.returns-then-has
returns-then-has c = let v = c.loop-i in record {
  value_value = end-hit _ _ _ _ _ c.requires.0 _ v.invariant c.loop-i-test.true
      (rw c.from.ensures at (sym c.has.ensures ∙ c.if-has.true));
  behind = subst (Unwritten c.args.facts.now c.args.left.now c.args.order.now c.args.len c.args.x)
      (omega (arith, c.loop-i-test.true)) v.invariant;
}

pub loop-i-preserved : goal.loop-i-preserved
loop-i-preserved c = behind_more _ _ _ _ _ (omega (arith, c.requires.0.long, c.requires.0.within)) c.loop-i.invariant
    c.loop-i-test.true (rw c.from.ensures at (sym c.has.ensures ∙ c.if-has.false))

pub returns : goal.returns
returns c = let v = c.loop-i in record {
  value_value = end_none _ _ _ _ _ _ v.invariant (omega arith);
  behind = subst (Unwritten c.args.facts.now c.args.left.now c.args.order.now c.args.len c.args.x)
      (omega arith) v.invariant;
}
