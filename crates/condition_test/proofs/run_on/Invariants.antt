use Prim.Native.Nat.{◌-◌, ◌≤◌}
use lib.ListN.{length, take}
use Rattle.table.specs.Events.{capacity}
use Rattle.condition_test.specs.Kept.{depth_of}
use Rattle.condition_test.proofs.RunLaws.{Going}
use Rattle.condition_test.proofs.run_on.Given as goal

abbrev pub invariant-loop-next : goal.invariant-loop-next
invariant-loop-next l = (l.depth ≤ capacity) × (depth_of l.kept ≤ l.len) × Going l.facts l.left l.words (take l.len l.order) l.initial.kept l.kept l.depth l.bit l.next

abbrev pub decreases-loop-next : goal.decreases-loop-next
decreases-loop-next l = length l.words - l.next
