use Rattle.table.specs.Events.{capacity}
use Rattle.order_test.specs.Testing.{open_by}
use Rattle.masks.proofs.LeftLaws.{Left}
use Rattle.order_test.proofs.may_write.Given as goal

abbrev pub invariant-loop-v : goal.invariant-loop-v
invariant-loop-v l = Left (open_by l.facts l.placed) capacity l.guards l.v-iterator.0
