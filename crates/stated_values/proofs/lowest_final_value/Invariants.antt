use Rattle.lists.proofs.ScanLaws.{Scanned}
use Rattle.model.specs.Axioms.{breaks_final_value}
use Rattle.stated_values.proofs.lowest_final_value.Given as goal

abbrev pub invariant-loop-x : goal.invariant-loop-x
invariant-loop-x l = Scanned (breaks_final_value l.t l.gmo) l.t.locations l.x
