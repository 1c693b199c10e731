use Rattle.refusals.specs.TableLines.{paired_here}
use Rattle.lists.proofs.ScanLaws.{Scanned}
use Rattle.dependency_lines.proofs.some_paired.Given as goal

abbrev pub invariant-loop-l : goal.invariant-loop-l
invariant-loop-l l = Scanned (paired_here l.t l.k.0) l.t.count l.l
