use Rattle.placing.specs.Entries.{lawful_at}
use Rattle.order_test.proofs.PassLaws.{Placed, Passing}
use Rattle.order_test.proofs.is_lawful.Given as goal

abbrev pub invariant-loop-e : goal.invariant-loop-e
invariant-loop-e l = Placed l.facts l.order l.len l.e-index l.placed × Passing l.facts l.order l.len lawful_at l.e-index
