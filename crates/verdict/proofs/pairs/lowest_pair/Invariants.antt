use Rattle.lists.proofs.ScanLaws.{Scanned}
use Rattle.model.specs.Axioms.{breaks_ppo}
use Rattle.verdict.proofs.PairLaws.{PairsScanned}
use Rattle.verdict.proofs.pairs.lowest_pair.Given as goal

abbrev pub invariant-loop-b : goal.invariant-loop-b
invariant-loop-b l = Scanned (breaks_ppo l.t l.rf l.gmo l.a) l.t.count l.b

abbrev pub invariant-loop-a : goal.invariant-loop-a
invariant-loop-a l = PairsScanned (breaks_ppo l.t l.rf l.gmo) l.t.count l.a
