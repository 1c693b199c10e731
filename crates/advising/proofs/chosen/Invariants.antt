use Rattle.advising.proofs.ChosenLaws.{Choosing}
use Rattle.advising.proofs.chosen.Given as goal

abbrev pub invariant-loop-left : goal.invariant-loop-left
invariant-loop-left l = Choosing l.fences l.m l.left l.set

abbrev pub decreases-loop-left : goal.decreases-loop-left
decreases-loop-left l = l.left
