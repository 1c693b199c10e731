use Prim.Native.Nat.{◌≤◌}
use mathlib.Core.Path.{◌≡◌}
use lib.ListN.{length, drop}
use Rattle.lists.specs.Lists.{before}
use Rattle.global_order.proofs.OrderLaws.{onward}
use Rattle.global_order.proofs.before.Given as goal

abbrev pub invariant-loop-w : goal.invariant-loop-w
invariant-loop-w l = (l.w-index ≤ length l.gmo) × (before l.gmo l.a.0 l.b.0 ≡ onward l.seen l.a.0 l.b.0 (drop l.w-index l.gmo))
