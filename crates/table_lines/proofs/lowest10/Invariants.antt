use Rattle.lists.proofs.ScanLaws.{Scanned}
use Rattle.refusals.specs.TableLines.{line10}
use Rattle.table_lines.proofs.lowest10.Given as goal

abbrev pub invariant-loop-k : goal.invariant-loop-k
invariant-loop-k l = Scanned (line10 l.t) l.t.count l.k
