use Prim.Native.Nat.{◌*◌, ◌≤◌}
use mathlib.Core.Path.{◌≡◌}
use lib.ListN.{length}
use Rattle.edition.specs.Limits.{two, blocks_of}
use Rattle.suite.proofs.turns.Given as goal

abbrev pub invariant-loop-tests : goal.invariant-loop-tests
invariant-loop-tests l = (l.held ≤ length l.buffer) × (length l.buffer ≡ length l.initial.buffer) × (l.block ≤ blocks_of two * l.tests)
