use Rattle.edition.specs.Limits.{max_locations}
use Rattle.refusals.specs.TableLines.{missing}
use Rattle.lists.proofs.ScanLaws.{Scanned}
use Rattle.whole_lines.proofs.states_missing.Given as goal

abbrev pub invariant-loop-x : goal.invariant-loop-x
invariant-loop-x l = Scanned (missing l.stated l.locations) max_locations l.x
