use Rattle.lists.proofs.ScanLaws.{Scanned}
use Rattle.model.specs.Axioms.{intrudes}
use Rattle.atomicity.proofs.lowest_intruder.Given as goal

abbrev pub invariant-loop-w : goal.invariant-loop-w
invariant-loop-w l = Scanned (intrudes l.t l.rf l.gmo l.l.0 l.s.0) l.t.count l.w
