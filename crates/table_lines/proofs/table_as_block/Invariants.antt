use Prim.Native.Nat.{◌≤◌}
use Rattle.table_lines.proofs.AsBlockLaws.{Turned}
use Rattle.table_lines.proofs.table_as_block.Given as goal

abbrev pub invariant-loop-k : goal.invariant-loop-k
invariant-loop-k l = (l.k ≤ l.t.count) × Turned l.t l.k l.events
