use Rattle.table.specs.Events.{capacity}
use Rattle.fact_rows.specs.FactRows.{mask}
use Rattle.state_test.proofs.UnionLaws.{United}
use Rattle.state_test.proofs.union.Given as goal

abbrev pub invariant-loop-e : goal.invariant-loop-e
invariant-loop-e l = United (mask l.facts l.k) capacity l.of l.e-iterator.0 l.all
