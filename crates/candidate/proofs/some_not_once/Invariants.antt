use mathlib.Core.Bool.{◌&&◌, not}
use lib.Dec.{eqb}
use Rattle.lists.specs.Lists.{count}
use Rattle.table.specs.Events.{memory}
use Rattle.lists.proofs.ScanLaws.{Scanned}
use Rattle.candidate.proofs.some_not_once.Given as goal

abbrev pub invariant-loop-e : goal.invariant-loop-e
invariant-loop-e l = Scanned (λ x. memory l.t x && not (eqb (count x l.gmo) 1)) l.t.count l.e
