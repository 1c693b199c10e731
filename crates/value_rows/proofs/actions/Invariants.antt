use Prim.Native.Nat.{ℕ, ◌+◌, ◌*◌, ◌-◌, ◌^◌, ◌<◌}
use Rattle.lists.proofs.PaddedLaws.{Padded}
use Rattle.table.specs.Events.{capacity, event}
use Rattle.value_rows.proofs.actions.Given as goal

abbrev pub invariant-loop-e : goal.invariant-loop-e
invariant-loop-e l =
    Padded (λ (k : ℕ). (event l.t k).operation + 256 * (event l.t k).operand) capacity l.t.count l.e l.row
    × ((k : ℕ) → k < l.e → ((event l.t k).operation < 2 ^ 8) × ((event l.t k).operand < 2 ^ 8))
