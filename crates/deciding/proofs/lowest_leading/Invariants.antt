use mathlib.Core.Path.{◌≡◌}
use lib.ListN.{length}
use Rattle.deciding.proofs.TryLaws.{Trying}
use Rattle.deciding.proofs.lowest_leading.Given as goal

abbrev pub invariant-loop-e : goal.invariant-loop-e
invariant-loop-e l = (length l.memo ≡ length l.initial.memo) × Trying l.facts l.ties l.s l.left l.events l.initial.memo l.memo l.e-iterator.0
