use Rattle.lists.proofs.ScanLaws.{Scanned}
use Rattle.model.specs.Axioms.{breaks_pair}
use Rattle.atomicity.proofs.lowest_sc.Given as goal

abbrev pub invariant-loop-s : goal.invariant-loop-s
invariant-loop-s l = Scanned (breaks_pair l.t l.rf l.gmo l.l.0) l.t.count l.s
