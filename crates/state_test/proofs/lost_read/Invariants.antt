use Rattle.state_test.proofs.LostLaws.{Sound}
use Rattle.state_test.proofs.lost_read.Given as goal

abbrev pub invariant-loop-r : goal.invariant-loop-r
invariant-loop-r l = Sound l.facts l.ties l.s l.left l.r-iterator.0
