use Rattle.order_values.proofs.AlongLaws.{Along}
use Rattle.order_values.proofs.left_values.Given as goal

abbrev pub invariant-loop-i : goal.invariant-loop-i
invariant-loop-i l = Along l.facts l.order l.len l.i l.left
