use Rattle.lists.proofs.ScanLaws.{Scanned}
use Rattle.model.specs.Axioms.{breaks_load_value}
use Rattle.stated_values.proofs.lowest_load_value.Given as goal

abbrev pub invariant-loop-r : goal.invariant-loop-r
invariant-loop-r l = Scanned (breaks_load_value l.t l.rf l.gmo) l.t.count l.r
