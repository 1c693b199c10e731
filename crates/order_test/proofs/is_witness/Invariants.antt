use Rattle.order_test.proofs.PassLaws.{Placed, Good, Passing, witness_at}
use Rattle.order_test.proofs.is_witness.Given as goal

abbrev pub invariant-loop-e : goal.invariant-loop-e
invariant-loop-e l = Placed l.facts l.order l.len l.e-index l.placed × Good l.facts l.order l.len l.e-index l.good × Passing l.facts l.order l.len witness_at l.e-index
