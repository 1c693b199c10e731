use borrow.Author.Tests.{ne_eqb}
use Prim.Native.Nat.{◌-◌, ◌<◌}
use native.Mathlib.Omega.{arith}
use mathlib.Core.Path.{sym, ◌∙◌}
use lib.ListN.{get_or}
use Rattle.table.specs.Events.{capacity}
use Rattle.order_test.proofs.PassLaws.{entry-room}
use Rattle.order_values.proofs.WordLaws.{fitting-first}
use Rattle.order_values.proofs.ReadLaws.{read-unwritten, read-start, read_more, read-hit, read_found, read_none}
use Rattle.order_values.proofs.value_read.Goals as goal
use Rattle.order_values.proofs.value_read.Goals.{In-loop-i}

-- entry i - 1, which is looked at, has room in a mask
room : (c : In-loop-i) → get_or c.args.order.now (c.loop-i.i - 1) 0 < capacity
room c =
    entry-room c.args.facts.now c.args.order.now c.args.len c.requires.0 _
    (omega (arith, c.loop-i.invariant.within, c.loop-i-test.true))

pub returns-then-facts-x-eq0 : goal.returns-then-facts-x-eq0
returns-then-facts-x-eq0 c = record { reads_by = read-unwritten c.args.facts.now c.args.left.now c.args.order.now c.args.len c.args.e c.requires.0 _ c.place-x.ensures.0 c.if-facts-x-eq0.true; depth_le_capacity = omega arith }

pub loop-i-init : goal.loop-i-init
loop-i-init c = read-start c.args.facts.now c.args.left.now c.args.order.now c.args.len c.args.e c.requires.0

pub last_left-told-requires : goal.last_left-told-requires
last_left-told-requires c = (
  fitting-first c.args.order.now c.args.len _ c.requires.0 (omega (arith, c.loop-i.invariant.within)),
  c.place-x.ensures.1,
)

pub returns-then-w-e : goal.returns-then-w-e
returns-then-w-e c = record {
  reads_by = read_found c.args.facts.now c.args.left.now c.args.order.now c.args.len c.args.e c.requires.0 _ c.loop-i.invariant c.loop-i-test.true
      c.if-w-e.true _ _ c.place-x.ensures.0 c.last_left-told.ensures.value_value;
  depth_le_capacity = omega (arith, c.loop-i.invariant.within, c.loop-i-test.true, c.requires.0.within);
}

pub has-requires : goal.has-requires
has-requires c = rw c.from.ensures (room (goal.at.has-requires c).In-loop-i)

pub bounds-left-w : goal.bounds-left-w
bounds-left-w c = room (goal.at.bounds-left-w c).In-loop-i

pub returns-then-has : goal.returns-then-has
returns-then-has c = record {
  reads_by = read-hit c.args.facts.now c.args.left.now c.args.order.now c.args.len c.args.e c.requires.0 _ c.loop-i.invariant c.loop-i-test.true
      (ne_eqb _ _ c.if-w-e.false) (rw c.from.ensures at (sym c.has.ensures ∙ c.if-has.true));
  depth_le_capacity = c.requires.0.within;
}

pub loop-i-preserved : goal.loop-i-preserved
loop-i-preserved c = read_more c.args.facts.now c.args.left.now c.args.order.now c.args.len c.args.e c.requires.0 _ c.loop-i.invariant c.loop-i-test.true
    (ne_eqb _ _ c.if-w-e.false) (rw c.from.ensures at (sym c.has.ensures ∙ c.if-has.false))

pub returns : goal.returns
returns c = record { reads_by = read_none c.args.facts.now c.args.left.now c.args.order.now c.args.len c.args.e c.requires.0 _ c.loop-i.invariant (omega arith) _ c.place-x.ensures.0; depth_le_capacity = c.requires.0.within }
