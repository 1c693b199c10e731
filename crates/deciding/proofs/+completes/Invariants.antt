use mathlib.Core.Path.{◌≡◌}
use lib.ListN.{length}
use Rattle.deciding.proofs.TryLaws.{Trying}
use Rattle.deciding.proofs.+completes.Given as goal

-- the events that are left to place
abbrev pub decreases-completes : goal.decreases-completes
decreases-completes l = l.left

abbrev pub invariant-loop-e : goal.invariant-loop-e
invariant-loop-e l = (length l.memo ≡ length l.initial.memo) × Trying l.facts l.ties l.s l.left l.tries l.initial.memo l.memo l.e-iterator.0
