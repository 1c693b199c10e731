use Prim.Native.Nat.{◌≤◌}
use mathlib.Core.Path.{subst}
use native.Mathlib.Omega.{arith}
use lib.ListN.{length}
use Rattle.edition.specs.Limits.{two, blocks_of}
use Rattle.suite.specs.Held.{Turned}
use Rattle.suite.proofs.HeldLaws.{few}
use Rattle.suite.proofs.turns.Goals as goal
use Rattle.suite.proofs.turns.Goals.{In-Passed}

-- what a turn left
left : (c : In-Passed) →
    let step = c.in-Passed.step in
    let v = c.loop-tests in
    (step.blocks ≤ blocks_of two) × (step.held ≤ length v.buffer)
left c =
    let v = c.loop-tests in
    let turn = c.turn in
    few v.held v.buffer turn.new.buffer c.in-Passed.step (subst (Turned _ _ _) c.in-Passed.is turn.ensures)

pub overflow_add-block : goal.overflow_add-block
overflow_add-block c = omega (arith, left c)

pub loop-tests-preserved : goal.loop-tests-preserved
loop-tests-preserved c = let turn = c.turn in
    (omega (arith, left c, turn.auto), omega (arith, turn.auto), omega (arith, left c))
