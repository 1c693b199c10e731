use Prim.Native.Nat.{◌*◌, ◌-◌, ◌≤◌}
use lib.ListN.{take, drop}
use Rattle.checksum.specs.Checksum.{covered}
use Rattle.checksum.specs.Lanes.{lanes, plain}
use Rattle.checksum.proofs.LaneLaws.{Summed}
use Rattle.checksum.proofs.checksum.Given as goal

-- `checksum`: the rows from row k on are summed, and each turn adds the row before them.
abbrev pub invariant-loop-k : goal.invariant-loop-k
invariant-loop-k l =
    Summed lanes (drop (lanes * l.k) (take covered l.s)) l.sums l.steps
    × (plain l.sums ≤ 255 * (covered - lanes * l.k))
    × (plain l.steps ≤ 255 * covered * (covered - lanes * l.k))
