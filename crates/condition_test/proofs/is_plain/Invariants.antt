use Prim.Native.Nat.{◌≤◌}
use mathlib.Core.Path.{◌≡◌}
use mathlib.Core.Bool.{true}
use lib.ListN.{length, take}
use Rattle.lists.specs.Lists.{all}
use Rattle.condition_test.specs.Machine.{plain_word}
use Rattle.condition_test.proofs.is_plain.Given as goal

abbrev pub invariant-loop-word : goal.invariant-loop-word
invariant-loop-word l = (l.word-index ≤ length l.words) × (all plain_word (take l.word-index l.words) ≡ true)
