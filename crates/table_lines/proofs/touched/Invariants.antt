use Prim.Native.Nat.{◌≤◌}
use Rattle.table_lines.specs.Used.{Touches}
use Rattle.table_lines.proofs.touched.Given as goal

abbrev pub invariant-loop-e : goal.invariant-loop-e
invariant-loop-e l = (l.e-index ≤ l.fn.t.count) × Touches l.fn.t l.e-index l.mask
