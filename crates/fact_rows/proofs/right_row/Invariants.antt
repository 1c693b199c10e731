use Prim.Native.Nat.{ℕ}
use lib.Dec.{eqb}
use lib.ListN.{get_or}
use Rattle.table.specs.Events.{capacity}
use Rattle.masks.proofs.PickLaws.{Picked}
use Rattle.fact_rows.proofs.right_row.Given as goal

abbrev pub invariant-loop-r : goal.invariant-loop-r
invariant-loop-r l = Picked (λ (k : ℕ). eqb (get_or l.stated k 0) l.value) capacity l.readers l.r-iterator.0 l.mask
