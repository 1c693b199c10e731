use mathlib.Core.Bool.{true, false}
use native.Mathlib.Omega.{arith}
use Rattle.suite_walk.proofs.WalkLaws.{next-step, next_past}
use Rattle.suite_walk.proofs.next.Goals as goal

pub returns-then-blocks-k : goal.returns-then-blocks-k
returns-then-blocks-k c = next_past _ _ _ c.blocks-2.ensures (omega (arith, c.if-blocks-k.true))

pub returns-then-good_two : goal.returns-then-good_two
returns-then-good_two c = next-step _ _ _ _ true c.blocks-2.ensures (omega (arith, c.if-blocks-k.false))
    c.good_two.ensures c.if-good_two.true

pub returns-else-good_two : goal.returns-else-good_two
returns-else-good_two c = next-step _ _ _ _ false c.blocks-2.ensures (omega (arith, c.if-blocks-k.false))
    c.good_two.ensures c.if-good_two.false
