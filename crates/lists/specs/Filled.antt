-- Lists made from a function of the position.
use Rattle.std.specs.Prelude.{ℕ, zero, suc, cond, List, [], ◌∷◌, ◌++◌, ltb}

-- f 0, f 1, .. , f (n - 1)
unfoldable pub up_to : {A : Type 0} → ℕ → (ℕ → A) → List A
up_to zero f = []
up_to (suc n) f = up_to n f ++ (f n ∷ [])

-- m entries: f's for the first n, then 0
unfoldable pub padded : ℕ → ℕ → (ℕ → ℕ) → List ℕ
padded m n f = up_to m (λ k. cond (ltb k n) (f k) 0)
