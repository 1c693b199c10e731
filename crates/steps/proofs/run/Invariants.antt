use Rattle.steps.proofs.RunLaws.{Running}
use Rattle.steps.proofs.run.Given as goal

abbrev pub invariant-loop-b : goal.invariant-loop-b
invariant-loop-b l = Running l.m.table l.steps l.order l.rf l.done l.b-index
