use Prim.Native.Nat.{◌≤◌}
use lib.ListN.{take}
use Rattle.text.proofs.NamedLaws.{Gathers}
use Rattle.text.proofs.named_locations.Given as goal

abbrev pub invariant-loop-i : goal.invariant-loop-i
invariant-loop-i l = (l.i ≤ l.len) × Gathers (take l.len l.words) l.i l.mask
