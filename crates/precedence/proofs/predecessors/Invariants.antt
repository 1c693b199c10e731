use Prim.Native.Nat.{◌-◌}
use mathlib.Core.Path.{◌≡◌}
use Rattle.lists.proofs.PaddedLaws.{Padded}
use Rattle.successors.specs.CleanMasks.{slots}
use Rattle.precedence.specs.Precedence.{predecessor_mask}
use Rattle.precedence.specs.Passed.{passed_at}
use Rattle.precedence.proofs.predecessors.Given as goal

abbrev pub invariant-loop-b : goal.invariant-loop-b
invariant-loop-b l = Padded (predecessor_mask l.t) slots l.t.count l.b l.rows × (l.p ≡ passed_at l.t l.b)
