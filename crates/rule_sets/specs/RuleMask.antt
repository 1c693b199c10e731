-- A set of rules as a mask: bit r - 1 is set for each rule r that holds.
use Rattle.std.specs.Prelude.{ℕ, zero, suc, ◌+◌, ◌*◌, ◌/◌, ◌%◌, Bool, cond, List, [], ◌∷◌, eqb}
use Rattle.std.specs.Int.Count.{count_trailing_zeros}
use Rattle.model.specs.Rules.{numbered}

-- the mask of the tests that hold: the first is bit 0
abbrev pub set_mask : List Bool → ℕ
set_mask [] = 0
set_mask (b ∷ bs) = cond b 1 0 + 2 * set_mask bs

-- the lowest w bits of a mask, the lowest first
abbrev pub bits_of : ℕ → ℕ → List Bool
bits_of zero m = []
bits_of (suc w) m = eqb (m % 2) 1 ∷ bits_of w (m / 2)

-- the numbers of the rules in a set, a mask of 16 bits: rule r if bit r - 1 is set
abbrev pub rules_in : ℕ → List ℕ
rules_in set = numbered 1 (bits_of 16 set)

-- the number of the lowest rule in a set; 0 for the empty set
abbrev pub lowest_in : ℕ → ℕ
lowest_in set = cond (eqb set 0) 0 (count_trailing_zeros 16 set + 1)
