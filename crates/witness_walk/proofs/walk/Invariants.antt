use Prim.Native.Nat.{◌+◌, ◌-◌, ◌*◌}
use Rattle.witness_walk.proofs.WalkLaws.{Going}
use Rattle.witness_walk.proofs.walk.Given as goal

abbrev pub invariant-loop-later : goal.invariant-loop-later
invariant-loop-later l = Going l.facts l.words l.pred l.succ l.mem l.watched l.initial.order l.initial.goods l.initial.keep l.initial.masks.can l.initial.later l.budget l.order l.goods l.seen l.kept l.keep l.masks.placed l.masks.can l.later l.last l.visited

abbrev pub decreases-loop-later : goal.decreases-loop-later
decreases-loop-later l = (l.budget - l.visited) * 64 + l.keep
