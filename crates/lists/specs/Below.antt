-- Tests of the numbers below a bound: the lowest that passes, whether some or every one passes.
use Rattle.std.specs.Prelude.{ℕ, zero, suc, ◌<◌, ◌≡◌, Bool, true, false, cond, not, List, [], ◌∷◌, ltb}

-- the first of k, k + 1, .. , k + m - 1 that passes; k + m if none does
unfoldable pub first_from : (ℕ → Bool) → ℕ → ℕ → ℕ
first_from f k zero = k
first_from f k (suc m) = cond (f k) k (first_from f (suc k) m)

-- the lowest number below n that passes; n if none does
abbrev pub lowest : ℕ → (ℕ → Bool) → ℕ
lowest n f = first_from f 0 n

-- some number below n passes
abbrev pub some : ℕ → (ℕ → Bool) → Bool
some n f = ltb (lowest n f) n

-- every number below n passes
abbrev pub every : ℕ → (ℕ → Bool) → Bool
every n f = not (some n (λ k. not (f k)))

-- k is the lowest number below n that passes
abbrev pub IsLowest : ℕ → (ℕ → Bool) → ℕ → Type 0
IsLowest n f k = (k < n) × (f k ≡ true) × ((j : ℕ) → j < k → f j ≡ false)

-- k, k + 1, .. , k + m - 1
unfoldable pub up_from : ℕ → ℕ → List ℕ
up_from k zero = []
up_from k (suc m) = k ∷ up_from (suc k) m

-- the numbers below n, ascending
abbrev pub below : ℕ → List ℕ
below n = up_from 0 n
