use Rattle.masks.proofs.GatherLaws.{Gathered}
use Rattle.advice.specs.Advice.{clear_fence}
use Rattle.advising.proofs.clear_fences.Given as goal

abbrev pub invariant-loop-e : goal.invariant-loop-e
invariant-loop-e l = Gathered (clear_fence l.t) l.t.count l.e l.mask
