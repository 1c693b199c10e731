use Prim.Native.Nat.{ℕ, ◌%◌, ◌^◌}
use mathlib.Core.Path.{ap, ◌∙◌}
use native.Mathlib.Nat.{one-mul, mod-eq_of_lt}
use lib.Pow.{pow-lt}
use Rattle.masks.proofs.one.Goals as goal

-- `one`: a shift below the width loses nothing.
pub returns : goal.returns
returns c = ap (λ (x : ℕ). x % 2 ^ 32) (one-mul (2 ^ c.args.e)) ∙ mod-eq_of_lt (pow-lt c.requires)
