use Rattle.candidate.specs.CandidateLines.{entry_wrong}
use Rattle.lists.proofs.ScanLaws.{Scanned}
use Rattle.candidate.proofs.returned_wrong.Given as goal

abbrev pub invariant-loop-e : goal.invariant-loop-e
invariant-loop-e l = Scanned (entry_wrong l.t l.rf) l.t.count l.e
