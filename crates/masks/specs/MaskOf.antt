-- The mask of a list.
use Rattle.std.specs.Prelude.{ℕ, ◌^◌, List, [], ◌∷◌}
use Rattle.std.specs.Int.Bits.{bit_or}

-- the mask of the entries of a list: bit e is set for each entry e
unfoldable pub mask_of : List ℕ → ℕ
mask_of [] = 0
mask_of (e ∷ p) = bit_or (mask_of p) (2 ^ e)
