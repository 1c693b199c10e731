use Prim.Native.Nat.{◌*◌, ◌≤◌}
use mathlib.Core.Path.{◌≡◌}
use lib.ListN.{take}
use Rattle.checksum.specs.Checksum.{covered, weighted_from}
use Rattle.check_speed.proofs.by_weights.Given as goal

-- `by_weights`: the sum is the weighted sum of the bytes passed, and each turn adds little.
abbrev pub invariant-loop-i : goal.invariant-loop-i
invariant-loop-i l = (l.sum ≡ weighted_from 0 (take l.i (take covered l.s))) × (l.sum ≤ covered * 255 * l.i)
