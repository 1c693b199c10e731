-- Laws for a loop that takes the bits of a mask away, the lowest first, and unites their masks.
use Prim.Native.Nat.{ℕ, ◌^◌, ◌<◌}
use native.Mathlib.Omega.{arith}
use mathlib.Core.Path.{◌≡◌, refl, sym, ap, ◌∙◌}
use mathlib.Core.Bool.{Bool, true, false, ◌&&◌, ◌||◌, or-false, or_assoc}
use lib.Bits.{bit_or, bit_xor}
use lib.Count.{count_trailing_zeros}
use Rattle.lists.specs.Below.{some}
use Rattle.lists.proofs.SomeLaws.{some-none}
use Rattle.masks.specs.Bit.{bit}
use Rattle.masks.proofs.BitLaws.{bit-or, bit-zero}
use Rattle.masks.proofs.LeftLaws.{left-lowest, left-hit, left_less, left-more}

module _ (masks : ℕ → ℕ) (w m : ℕ) where
  -- some bit of l has j in its mask
  abbrev reaches : ℕ → ℕ → Bool
  reaches l j = some w (λ e. bit l e && bit (masks e) j)

  -- r has the masks of the bits of m that aren't left in l
  abbrev pub United : ℕ → ℕ → Type 0
  United l r = (l < 2 ^ w) × ((j : ℕ) → (bit r j || reaches l j) ≡ reaches m j)

  pub unite-start : m < 2 ^ w → United m 0
  unite-start h = (h, λ j. ap (λ (b : Bool). b || reaches m j) (bit-zero j))

  -- no bit is left
  pub unite-end : (l r : ℕ) → United l r → l ≡ 0 → (j : ℕ) → bit r j ≡ reaches m j
  unite-end l r s e j =
      sym (or-false (bit r j))
      ∙ ap (λ (b : Bool). bit r j || b)
      (sym (some-none w (λ k. bit l k && bit (masks k) j)
      (λ k h. ap (λ (b : Bool). b && bit (masks k) j) (ap (λ (x : ℕ). bit x k) e ∙ bit-zero k))))
      ∙ s.1 j

  module _ (l r v : ℕ) (s : United l r) (h : 0 < l) (e : v ≡ count_trailing_zeros w l) where
    pub unite-lowest : v < w
    unite-lowest = (left-lowest (bit l) w l l v (s.0, refl) h e).0

    pub unite-less : (b : ℕ) → b ≡ 2 ^ v → bit_xor l b < l
    unite-less b q = left_less (bit l) w l l v (s.0, refl) h e b q

    -- the lowest bit, or one of the others
    apart : (f : ℕ → Bool) (b : ℕ) → b ≡ 2 ^ v →
        (f v || some w (λ k. bit (bit_xor l b) k && f k)) ≡ some w (λ k. bit l k && f k)
    apart f b q = go (f v) refl
      where
        go : (x : Bool) → f v ≡ x → (x || some w (λ k. bit (bit_xor l b) k && f k)) ≡ some w (λ k. bit l k && f k)
        go true p = sym (left-hit f w l l v (s.0, refl) h e p)
        go false p = sym (left-more f w l l v (s.0, refl) h e b q p).1

    pub unite-more : (b o : ℕ) → b ≡ 2 ^ v → o ≡ masks v → United (bit_xor l b) (bit_or r o)
    unite-more b o q p = (
      omega (arith, unite-less b q),
      λ j.
          ap (λ (x : Bool). x || reaches (bit_xor l b) j) (bit-or r o j ∙ ap (λ (x : ℕ). bit r j || bit x j) p)
          ∙ or_assoc (bit r j) (bit (masks v) j) (reaches (bit_xor l b) j)
          ∙ ap (λ (x : Bool). bit r j || x) (apart (λ k. bit (masks k) j) b q) ∙ s.1 j,
    )
