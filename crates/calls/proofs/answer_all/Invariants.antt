use Prim.Native.Nat.{◌≤◌}
use Rattle.calls.proofs.answer_all.Given as goal

abbrev pub invariant-loop-turns : goal.invariant-loop-turns
invariant-loop-turns g l = l.k ≤ l.turns
