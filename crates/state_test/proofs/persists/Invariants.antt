use Rattle.state_test.proofs.KeptLaws.{Held}
use Rattle.state_test.proofs.persists.Given as goal

abbrev pub invariant-loop-e : goal.invariant-loop-e
invariant-loop-e l = Held l.facts l.ties l.placed l.set l.e-iterator.0
