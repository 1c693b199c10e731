use Rattle.refusals.specs.TableLines.{lacks_control}
use Rattle.lists.proofs.ScanLaws.{Scanned}
use Rattle.dependency_lines.proofs.some_lacks_control.Given as goal

abbrev pub invariant-loop-j : goal.invariant-loop-j
invariant-loop-j l = Scanned (lacks_control l.t l.k.0) l.t.count l.j
