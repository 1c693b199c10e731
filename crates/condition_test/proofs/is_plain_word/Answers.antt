use Prim.Native.Nat.{ℕ}
use mathlib.Core.Path.{ap}
use mathlib.Core.Bool.{◌||◌}
use lib.Dec.{eqb, leb}
use Rattle.condition_reader.specs.Words.{ends_node, and_node}
use Rattle.condition_test.proofs.is_plain_word.Goals as goal

pub returns : goal.returns
returns c = ap (λ (k : ℕ). leb k ends_node || eqb k and_node) c.kind_of-kind.ensures
