use Prim.Native.Nat.{◌*◌, ◌≤◌}
use mathlib.Core.Path.{◌≡◌}
use mathlib.Core.Bool.{not}
use lib.Dec.{eqb}
use Rattle.lists.specs.Below.{some}
use Rattle.zero_bytes.specs.ZeroBytes.{not_zero}
use Rattle.zero_bytes.proofs.some_not_zero.Given as goal

abbrev pub invariant-loop-b : goal.invariant-loop-b
invariant-loop-b l = (l.b-index ≤ l.n) × (l.sum ≤ 255 * l.b-index) × (not (eqb l.sum 0) ≡ some l.b-index (not_zero l.s l.at))
