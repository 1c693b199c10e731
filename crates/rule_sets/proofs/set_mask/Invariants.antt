use Prim.Native.Nat.{◌-◌, ◌≤◌}
use mathlib.Core.Path.{◌≡◌}
use lib.ListN.{drop}
use Rattle.rule_sets.specs.RuleMask.{set_mask}
use Rattle.rule_sets.proofs.set_mask.Given as goal

abbrev pub invariant-loop-k : goal.invariant-loop-k
invariant-loop-k l = (l.k ≤ 13) × (l.set ≡ set_mask (drop l.k l.held))
