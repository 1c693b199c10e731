use Rattle.table.specs.Events.{memory}
use Rattle.masks.proofs.GatherLaws.{Gathered}
use Rattle.table.proofs.memory_mask.Given as goal

abbrev pub invariant-loop-e : goal.invariant-loop-e
invariant-loop-e l = Gathered (memory l.t) l.t.count l.e l.mask
