use Prim.Native.Nat.{◌+◌, ◌≤◌}
use mathlib.Core.List.{◌++◌}
use mathlib.Core.Path.{◌≡◌}
use lib.ListN.{length, take}
use Rattle.console.specs.Lines.{room, kept}
use Rattle.console.proofs.line.Line.text.Given as goal

abbrev pub invariant-loop-b : goal.invariant-loop-b
invariant-loop-b l =
    (length l.self.bytes ≡ room) ×
    (l.initial.self.len + length l.text ≤ room → (l.self.len ≡ l.initial.self.len + l.b-index) × (kept l.self ≡ kept l.initial.self ++ take l.b-index l.text))
