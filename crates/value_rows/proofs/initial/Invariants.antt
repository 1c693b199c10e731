use Prim.Native.Nat.{ℕ, ◌-◌, ◌^◌, ◌<◌}
use Rattle.lists.proofs.PaddedLaws.{Padded}
use Rattle.table.specs.Events.{capacity}
use Rattle.model.specs.Returns.{initial_value}
use Rattle.value_rows.proofs.initial.Given as goal

abbrev pub invariant-loop-x : goal.invariant-loop-x
invariant-loop-x l = Padded (initial_value l.t) capacity l.t.locations l.x l.row × ((k : ℕ) → k < l.x → initial_value l.t k < 2 ^ 16)
