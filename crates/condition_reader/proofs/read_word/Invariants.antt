use Prim.Native.Nat.{◌+◌, ◌≤◌}
use mathlib.Core.Path.{◌≡◌}
use lib.ListN.{length, drop}
use Rattle.text_format.specs.Reading.{word}
use Rattle.condition_reader.proofs.read_word.Given as goal

abbrev pub invariant-loop-i : goal.invariant-loop-i
invariant-loop-i l = (word l.bytes (drop l.at l.text) ≡ word (drop l.i l.bytes) (drop (l.at + l.i) l.text)) × (l.at + l.i ≤ length l.text)
