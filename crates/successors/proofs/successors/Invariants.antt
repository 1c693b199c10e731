use Rattle.successors.proofs.WaitLaws.{Telling}
use Rattle.successors.proofs.successors.Given as goal

abbrev pub invariant-loop-k : goal.invariant-loop-k
invariant-loop-k l = Telling l.pred l.mem l.k-iterator.0 l.succ
