use Rattle.outcome_values.proofs.ReaderLaws.{Written}
use Rattle.outcome_values.proofs.returned_values.Given as goal

abbrev pub invariant-loop-e : goal.invariant-loop-e
invariant-loop-e l = Written l.returned l.readers l.n l.e-iterator.0 l.values
