use Rattle.outcome_values.proofs.LocationLaws.{Told}
use Rattle.outcome_values.proofs.final_values.Given as goal

abbrev pub invariant-loop-x : goal.invariant-loop-x
invariant-loop-x l = Told l.at l.locations l.n l.initial.values l.x l.values
