use Prim.Native.Nat.{suc, ◌-◌, ◌<◌}
use mathlib.Core.Path.{◌≡◌, sym, ◌∙◌}
use native.Mathlib.Omega.{arith}
use lib.ListN.{get_or}
use Rattle.table.specs.Events.{capacity}
use Rattle.order_test.proofs.PassLaws.{entry-room}
use Rattle.order_test.proofs.EndLaws.{end-unmet, end-start, end-hit, end_more, end_none}
use Rattle.order_test.proofs.ends_well.Goals as goal
use Rattle.order_test.proofs.ends_well.Goals.{In-loop-i}

-- an entry is left
next : (c : In-loop-i) → c.loop-i.i ≡ suc (c.loop-i.i - 1)
next c = let l = c.loop-i-test.true in omega arith

-- the entry has room in a mask
room : (c : In-loop-i) → get_or c.args.order.now (c.loop-i.i - 1) 0 < capacity
room c = entry-room c.args.facts.now c.args.order.now c.args.len c.requires _ (omega (arith, next c, c.loop-i.invariant.0))

pub returns-then-facts-ne0 : goal.returns-then-facts-ne0
returns-then-facts-ne0 c = end-unmet c.args.facts.now c.args.order.now c.args.len c.if-facts-ne0.true

pub loop-i-init : goal.loop-i-init
loop-i-init c = end-start c.args.facts.now c.args.order.now c.args.len c.requires c.if-facts-ne0.false

pub returns-then-left-eq0 : goal.returns-then-left-eq0
returns-then-left-eq0 c = end_none c.args.facts.now c.args.order.now c.args.len c.requires _ _ c.loop-i.invariant (λ l. c.if-left-eq0.true)

pub has-requires : goal.has-requires
has-requires c = rw c.from.ensures (room (goal.at.has-requires c).In-loop-i)

pub returns-then-has : goal.returns-then-has
returns-then-has c = end-hit c.args.facts.now c.args.order.now c.args.len c.requires _ _ _ (next (goal.at.returns-then-has c).In-loop-i) c.loop-i.invariant
    (rw c.from.ensures at (sym c.has.ensures ∙ c.if-has.true))

pub bounds-facts-e : goal.bounds-facts-e
bounds-facts-e c = omega (arith, room (goal.at.bounds-facts-e c).In-loop-i)

pub loop-i-preserved : goal.loop-i-preserved
loop-i-preserved c = end_more c.args.facts.now c.args.order.now c.args.len c.requires _ _ _ (next (goal.at.loop-i-preserved c).In-loop-i) c.loop-i.invariant
    (rw c.from.ensures at (sym c.has.ensures ∙ c.if-has.false)) _ c.less-left.ensures

pub returns-after-loop-i : goal.returns-after-loop-i
returns-after-loop-i c = end_none c.args.facts.now c.args.order.now c.args.len c.requires _ _ c.loop-i.invariant (λ l. absurd (omega arith))
