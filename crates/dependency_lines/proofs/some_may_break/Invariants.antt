use Rattle.dependency_lines.proofs.PassingLaws.{Passing}
use Rattle.dependency_lines.proofs.some_may_break.Given as goal

abbrev pub invariant-loop-k : goal.invariant-loop-k
invariant-loop-k l = Passing l.t l.k l.harts
