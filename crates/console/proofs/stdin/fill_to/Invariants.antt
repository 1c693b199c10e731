use Prim.Native.Nat.{◌-◌, ◌≤◌}
use mathlib.Core.Path.{◌≡◌}
use lib.ListN.{length, take}
use Rattle.console.proofs.stdin.fill_to.Given as goal

abbrev pub invariant-loop-n : goal.invariant-loop-n
invariant-loop-n l = (l.held ≤ l.n) × (l.n ≤ length l.buffer) × (length l.buffer ≡ length l.initial.buffer) × (take l.held l.buffer ≡ take l.held l.initial.buffer)

abbrev pub decreases-loop-n : goal.decreases-loop-n
decreases-loop-n l = l.most - l.n
