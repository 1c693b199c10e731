use Rattle.outcome_values.proofs.AlongLaws.{Told}
use Rattle.outcome_values.proofs.go_along.Given as goal

abbrev pub invariant-loop-e : goal.invariant-loop-e
invariant-loop-e l = Told l.facts l.left l.order l.len l.e-index l.placed l.returned l.at
