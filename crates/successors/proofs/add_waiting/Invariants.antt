use Rattle.successors.proofs.WaitLaws.{Adding}
use Rattle.successors.proofs.add_waiting.Given as goal

abbrev pub invariant-loop-e : goal.invariant-loop-e
invariant-loop-e l = Adding l.initial.succ l.preds l.b l.e-iterator.0 l.succ
