use mathlib.Core.Path.{sym, ◌∙◌}
use native.Mathlib.Omega.{arith}
use Rattle.global_order.proofs.OrderLaws.{onward-hit, onward-more, onward-end}
use Rattle.global_order.proofs.before.Goals as goal

pub returns-then-seen-b : goal.returns-then-seen-b
returns-then-seen-b c = let v = c.loop-w in
    sym (v.invariant.1 ∙ onward-hit v.seen _ _ _ v.w-index (omega arith) c.if-seen-b.true)

pub loop-w-preserved : goal.loop-w-preserved
loop-w-preserved c = let v = c.loop-w in
    (omega arith, v.invariant.1 ∙ onward-more v.seen _ _ _ v.w-index (omega arith) c.if-seen-b.false)

pub returns : goal.returns
returns c = let v = c.loop-w in
    sym (v.invariant.1 ∙ onward-end v.seen _ _ _ v.w-index (omega arith))
