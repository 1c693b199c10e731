use Prim.Native.Nat.{◌<◌, ◌^◌}
use Rattle.state_test.proofs.grow.Given as goal

abbrev pub invariant-loop : goal.invariant-loop
invariant-loop l = l.new < 2 ^ 32
