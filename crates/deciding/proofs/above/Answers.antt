use native.Mathlib.Omega.{arith}
use Prim.Native.Nat.{ℕ}
use mathlib.Core.Path.{ap, sym, ◌∙◌}
use mathlib.Core.Bool.{Bool, ◌&&◌, and_comm}
use lib.Dec.{leb}
use Rattle.masks.specs.Bit.{bit}
use Rattle.masks.proofs.BitLaws.{bit-zero}
use Rattle.masks.proofs.PowerLaws.{bit_high}
use Rattle.deciding.proofs.LeadLaws.{leb-suc, past-none}
use Rattle.deciding.proofs.above.Goals as goal

pub returns-then-x-lt-TOP_BIT : goal.returns-then-x-lt-TOP_BIT
returns-then-x-lt-TOP_BIT c k = ap (λ (m : ℕ). bit m k) (rw c.from.ensures at c.from-then-x-lt-TOP_BIT.ensures) ∙ bit_high c.args.m _ k ∙ and_comm (leb _ k) _ ∙ ap (λ (b : Bool). bit c.args.m k && b) (leb-suc _ k)

pub returns-else-x-lt-TOP_BIT : goal.returns-else-x-lt-TOP_BIT
returns-else-x-lt-TOP_BIT c k = bit-zero k ∙ sym (past-none _ _ c.ranges.m.fits (omega arith) k)
