use Rattle.order_values.proofs.EndLaws.{Unwritten}
use Rattle.order_values.proofs.last_left.Given as goal

abbrev pub invariant-loop-i : goal.invariant-loop-i
invariant-loop-i l = Unwritten l.facts l.left l.order l.len l.x l.i
