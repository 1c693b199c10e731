use Prim.Native.Nat.{◌-◌, ◌≤◌}
use mathlib.Core.List.{◌++◌}
use mathlib.Core.Path.{◌≡◌}
use lib.ListN.{length, drop}
use Rattle.lists.specs.Filled.{up_to}
use Rattle.model.specs.Returns as model
use Rattle.returns.proofs.determine.Given as goal

abbrev pub invariant-loop-e : goal.invariant-loop-e
invariant-loop-e l = (l.e ≤ l.t.count) × (length l.out ≡ length l.initial.out) × (l.out ≡ up_to l.e (model.return_entry l.t l.gmo) ++ drop l.e l.initial.out)
