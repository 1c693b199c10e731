use Prim.Native.Nat.{◌≤◌}
use Rattle.witness_walk.proofs.FollowLaws.{Following}
use Rattle.witness_walk.proofs.follow.Given as goal

abbrev pub invariant-loop-i : goal.invariant-loop-i
invariant-loop-i l = (l.i ≤ l.len) × Following l.facts l.watched l.order l.goods l.len l.i l.placed l.entered
