use Rattle.state_test.proofs.AcceptLaws.{Tested}
use Rattle.state_test.proofs.accepted.Given as goal

abbrev pub invariant-loop-e : goal.invariant-loop-e
invariant-loop-e l = Tested l.facts l.ties l.s l.left l.e-iterator.0 l.can
