use mathlib.Core.Path.{ap₂}
use mathlib.Core.Bool.{not}
use Prim.Native.Nat.{ℕ}
use lib.Dec.{eqb}
use Rattle.block.proofs.check_wrong.Goals as goal

pub returns : goal.returns
returns c = ap₂ (λ (a b : ℕ). not (eqb a b)) c.stored_check.ensures c.checksum.ensures
