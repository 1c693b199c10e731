use Rattle.edition.specs.Limits.{max_locations}
use Rattle.refusals.specs.TableLines.{initial_not_zero}
use Rattle.lists.proofs.ScanLaws.{Scanned}
use Rattle.whole_lines.proofs.initial_not_zero.Given as goal

abbrev pub invariant-loop-x : goal.invariant-loop-x
invariant-loop-x l = Scanned (initial_not_zero l.locations l.fn.initial) max_locations l.x
