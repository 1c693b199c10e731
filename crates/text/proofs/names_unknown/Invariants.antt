use Prim.Native.Nat.{◌≤◌}
use mathlib.Core.Path.{◌≡◌}
use lib.ListN.{take, drop}
use Rattle.lists.specs.Lists.{any}
use Rattle.text.specs.Judged.{word_unknown}
use Rattle.text.proofs.names_unknown.Given as goal

abbrev pub invariant-loop-i : goal.invariant-loop-i
invariant-loop-i l = (l.i ≤ l.len) × (any (word_unknown l.t) (take l.len l.words) ≡ any (word_unknown l.t) (drop l.i (take l.len l.words)))
