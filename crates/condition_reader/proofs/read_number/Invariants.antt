use Prim.Native.Nat.{◌≤◌}
use mathlib.Core.Path.{◌≡◌}
use lib.ListN.{drop}
use Rattle.text_format.specs.Reading.{number, digits}
use Rattle.condition_reader.proofs.read_number.Given as goal

abbrev pub invariant-loop-at : goal.invariant-loop-at
invariant-loop-at l = (number l.most (drop l.from l.text) ≡ digits l.most l.value (drop l.at l.text)) × (l.value ≤ l.most)
