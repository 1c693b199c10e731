use Prim.Native.Nat.{ℕ}
use mathlib.Core.Path.{ap}
use mathlib.Core.Bool.{not, ◌&&◌}
use lib.Dec.{eqb, leb}
use Rattle.condition_reader.specs.Words.{ends_node}
use Rattle.condition_test.proofs.refutes.Goals as goal

pub returns : goal.returns
returns c = let a = c.args in
    ap (λ (k : ℕ). eqb a.plain 1 && leb k ends_node && not a.bit) c.kind_of.ensures
