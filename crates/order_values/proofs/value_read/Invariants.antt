use Rattle.order_values.proofs.ReadLaws.{Unseen}
use Rattle.order_values.proofs.value_read.Given as goal

abbrev pub invariant-loop-i : goal.invariant-loop-i
invariant-loop-i l = Unseen l.facts l.left l.order l.len l.e l.i
