use Rattle.lists.proofs.ScanLaws.{Scanned}
use Rattle.model.specs.Axioms.{breaks_pair}
use Rattle.steps.proofs.atomic.Given as goal

abbrev pub invariant-loop-l : goal.invariant-loop-l
invariant-loop-l l = Scanned (λ k. breaks_pair l.t l.rf l.gmo k l.e.0) l.t.count l.l
