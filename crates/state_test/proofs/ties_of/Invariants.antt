use Rattle.lists.proofs.PaddedLaws.{Padded}
use Rattle.successors.specs.CleanMasks.{slots}
use Rattle.state_test.proofs.TieLaws.{around}
use Rattle.state_test.proofs.ties_of.Given as goal

abbrev pub invariant-loop-e : goal.invariant-loop-e
invariant-loop-e l = Padded (around l.t) slots l.t.count l.e l.place
