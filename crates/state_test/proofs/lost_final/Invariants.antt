use Rattle.table.specs.Events.{capacity}
use Rattle.masks.proofs.LeftLaws.{Left}
use Rattle.state_test.proofs.LostLaws.{spoiled}
use Rattle.state_test.proofs.lost_final.Given as goal

abbrev pub invariant-loop-w : goal.invariant-loop-w
invariant-loop-w l = Left (spoiled l.facts l.placed) capacity l.left l.w-iterator.0
