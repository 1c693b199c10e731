-- "the lowest a, and for that a the lowest b"
use Rattle.std.specs.Prelude.{ℕ, ◌<◌, ◌≡◌, Bool, Option, MatchOption}
use Rattle.lists.specs.Below.{lowest, some}
use Rattle.verdict.specs.declared.pairs.Pair.{Pair}

-- (a, b) is the lowest pair below n that passes
pub record LowestPair (n : ℕ) (f : ℕ → ℕ → Bool) (a b : ℕ) : Type 0 where
  pub below : a < n
  pub first : lowest n (λ x. some n (f x)) ≡ a
  pub within : b < n
  pub second : lowest n (f a) ≡ b

-- that pair is found; nothing where none passes
abbrev pub FindsPair : ℕ → (ℕ → ℕ → Bool) → Option Pair → Type 0
FindsPair n f r = MatchOption r (lowest n (λ x. some n (f x)) ≡ n) (λ p. LowestPair n f p.a.0 p.b.0)
