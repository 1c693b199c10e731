use Rattle.order_test.proofs.EndLaws.{Undecided}
use Rattle.order_test.proofs.ends_well.Given as goal

abbrev pub invariant-loop-i : goal.invariant-loop-i
invariant-loop-i l = Undecided l.facts l.order l.len l.i l.left
