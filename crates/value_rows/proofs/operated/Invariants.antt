use Prim.Native.Nat.{◌-◌}
use Rattle.masks.proofs.GatherLaws.{Gathered}
use Rattle.table.specs.Events.{event}
use mathlib.Core.Bool.{not}
use lib.Dec.{eqb}
use Rattle.operation.specs.Operation.{no_operation}
use Rattle.value_rows.proofs.operated.Given as goal

abbrev pub invariant-loop-e : goal.invariant-loop-e
invariant-loop-e l = Gathered (λ k. not (eqb (event l.t k).operation no_operation)) l.t.count l.e l.mask
