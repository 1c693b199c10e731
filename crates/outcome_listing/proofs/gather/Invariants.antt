use Prim.Native.Nat.{◌≤◌}
use mathlib.Core.Path.{◌≡◌}
use lib.ListN.{length}
use Rattle.table.specs.Events.{memory_mask}
use Rattle.outcome_listing.specs.Gathering.{Walks}
use Rattle.outcome_listing.proofs.StandLaws.{Stands}
use Rattle.outcome_listing.proofs.gather.Given as goal

-- what holds at each turn
abbrev pub invariant-loop-visited : goal.invariant-loop-visited
invariant-loop-visited l =
    (w : Walks l.t l.facts l.pred) (m : l.mem ≡ memory_mask l.t) →
    Stands w m l.previous l.asked.room l.budget l.order l.from l.left l.n l.kept × (l.n ≤ l.asked.room) × (length l.kept ≡ length l.initial.kept)

abbrev pub decreases-loop-visited : goal.decreases-loop-visited
decreases-loop-visited l = l.left
