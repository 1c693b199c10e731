use Rattle.successors.specs.CleanMasks.{ready}
use Rattle.successors.proofs.SiftLaws.{Sifted}
use Rattle.ready_events.proofs.ready_of.Given as goal

abbrev pub invariant-loop-k : goal.invariant-loop-k
invariant-loop-k l = Sifted (ready l.pred l.placed) l.rest l.k-iterator.0 l.found
