use Rattle.lists.proofs.ScanLaws.{Scanned}
use Rattle.model.specs.Axioms.{breaks_value_read}
use Rattle.stated_values.proofs.lowest_value_read.Given as goal

abbrev pub invariant-loop-r : goal.invariant-loop-r
invariant-loop-r l = Scanned (breaks_value_read l.t l.rf) l.t.count l.r
