use Prim.Native.Nat.{◌≤◌}
use mathlib.Core.Path.{◌≡◌}
use mathlib.Core.List.{map}
use lib.ListN.{take}
use Rattle.text.specs.Texts.{covering}
use Rattle.text.proofs.least.Given as goal

abbrev pub invariant-loop-k : goal.invariant-loop-k
invariant-loop-k l =
    (l.k ≤ l.count) × (l.harts ≡ covering (map (λ e. e.hart) (take l.k l.events)))
    × (l.locations ≡ covering (map (λ e. e.location.0) (take l.k l.events)))
