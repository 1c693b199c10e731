-- "508..511: the sum over i = 0..507 of (i+1) times byte i"
use Rattle.std.specs.Prelude.{ℕ, ◌+◌, ◌*◌, List, [], ◌∷◌, take}

-- how many bytes the check covers
abbrev pub covered : ℕ
covered = 508

-- each byte times its place, the first place being k + 1
unfoldable pub weighted_from : ℕ → List ℕ → ℕ
weighted_from k [] = 0
weighted_from k (b ∷ bs) = (k + 1) * b + weighted_from (k + 1) bs

-- the check of a block
unfoldable pub checksum : List ℕ → ℕ
checksum s = weighted_from 0 (take covered s)
