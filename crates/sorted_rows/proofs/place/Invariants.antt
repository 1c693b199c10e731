use Prim.Native.Nat.{◌-◌}
use Rattle.sorted_rows.proofs.PlaceLaws.{Between}
use Rattle.sorted_rows.proofs.place.Given as goal

abbrev pub invariant-loop-low : goal.invariant-loop-low
invariant-loop-low l = Between l.value l.width l.n l.kept l.low l.high

abbrev pub decreases-loop-low : goal.decreases-loop-low
decreases-loop-low l = l.high - l.low
