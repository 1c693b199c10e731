use Rattle.lists.proofs.ScanLaws.{Scanned}
use Rattle.refusals.specs.TableLines.{line9}
use Rattle.table_lines.proofs.lowest9.Given as goal

abbrev pub invariant-loop-k : goal.invariant-loop-k
invariant-loop-k l = Scanned (line9 l.t) l.t.count l.k
