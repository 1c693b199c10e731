-- The bits that are set in a mask, one after the other.
use Rattle.std.specs.Prelude.{ℕ, ◌≡◌, ◌<◌, ◌^◌, Option, MatchOption}
use Rattle.std.specs.Int.Bits.{bit_xor}
use Rattle.std.specs.Int.Count.{count_trailing_zeros}
use Rattle.masks.specs.declared.Ones.{Ones}

-- bit e is the lowest of a mask, and what is left is the mask without it
pub record Taken (mask e left : ℕ) : Type 0 where
  pub some : 0 < mask
  pub fits : e < 32
  pub lowest : e ≡ count_trailing_zeros 32 mask
  pub rest : left ≡ bit_xor mask (2 ^ e)

-- the lowest bit that is left comes next; nothing, once none is left
abbrev pub TakesLowest : Ones → Option ℕ → Ones → Type 0
TakesLowest before bit after = MatchOption bit ((before.0 ≡ 0) × (after.0 ≡ 0)) (λ e. Taken before.0 e after.0)
