use Prim.Native.Nat.{ℕ, ◌-◌}
use Rattle.lists.proofs.PaddedLaws.{Padded}
use Rattle.table.specs.Events.{capacity, location, writes}
use mathlib.Core.Bool.{◌&&◌}
use lib.Dec.{eqb}
use Rattle.order_facts.specs.Facts.{mask_by}
use Rattle.value_rows.proofs.writers.Given as goal

abbrev pub invariant-loop-x : goal.invariant-loop-x
invariant-loop-x l = Padded (λ (k : ℕ). mask_by l.fn.t (λ w. writes l.fn.t w && eqb (location l.fn.t w) k)) capacity l.fn.t.locations l.x l.row
