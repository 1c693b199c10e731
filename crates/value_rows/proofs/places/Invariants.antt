use Prim.Native.Nat.{◌-◌}
use Rattle.lists.proofs.PaddedLaws.{Padded}
use Rattle.table.specs.Events.{capacity, location}
use Rattle.value_rows.proofs.places.Given as goal

abbrev pub invariant-loop-e : goal.invariant-loop-e
invariant-loop-e l = Padded (location l.t) capacity l.t.count l.e l.row
