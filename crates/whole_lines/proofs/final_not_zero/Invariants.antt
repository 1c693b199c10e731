use Rattle.edition.specs.Limits.{max_locations}
use Rattle.refusals.specs.TableLines.{final_not_zero}
use Rattle.lists.proofs.ScanLaws.{Scanned}
use Rattle.whole_lines.proofs.final_not_zero.Given as goal

abbrev pub invariant-loop-x : goal.invariant-loop-x
invariant-loop-x l = Scanned (final_not_zero l.stated l.finals) max_locations l.x
