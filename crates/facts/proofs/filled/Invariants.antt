use Prim.Native.Nat.{ℕ, ◌-◌}
use mathlib.Core.Bool.{not}
use lib.Dec.{eqb}
use lib.ListN.{get_or}
use Rattle.masks.proofs.GatherLaws.{Gathered}
use Rattle.facts.proofs.filled.Given as goal

abbrev pub invariant-loop-e : goal.invariant-loop-e
invariant-loop-e l = Gathered (λ (k : ℕ). not (eqb (get_or l.rows k 0) 0)) l.count l.e l.mask
