use Rattle.lists.proofs.ScanLaws.{Scanned}
use Rattle.model.specs.Axioms.{breaks_atomicity}
use Rattle.atomicity.proofs.lowest_lr.Given as goal

abbrev pub invariant-loop-l : goal.invariant-loop-l
invariant-loop-l l = Scanned (breaks_atomicity l.t l.rf l.gmo) l.t.count l.l
