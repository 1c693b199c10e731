-- Laws for a loop that tests the bits of a mask, the lowest first, takes each away, and stops at the first that passes.
use Prim.Native.Nat.{ℕ, ◌^◌, ◌<◌}
use mathlib.Core.Path.{◌≡◌, refl, sym, ap, ◌∙◌}
use mathlib.Core.Bool.{Bool, true, false, ◌&&◌, xor, and-false}
use native.Mathlib.Omega.{arith}
use lib.Dec.{eqb}
use lib.Bits.{bit_xor}
use lib.Pow.{pow_pos}
use lib.Count.{count_trailing_zeros}
use borrow.Author.Tests.{eqb-true}
use Rattle.lists.specs.Below.{some}
use Rattle.lists.proofs.BoolLaws.{xor-false}
use Rattle.lists.proofs.SomeLaws.{some_at, some-none, some_same}
use Rattle.masks.specs.Bit.{bit}
use Rattle.masks.proofs.BitLaws.{bit-xor, bit-zero, bit-pow}
use Rattle.masks.proofs.PowerLaws.{trailing-lowest, xor-pow}

module _ (f : ℕ → Bool) (w m : ℕ) where
  -- the bits that were taken from m don't pass: those left in l decide
  abbrev pub Left : ℕ → Type 0
  Left l = (l < 2 ^ w) × (some w (λ k. bit m k && f k) ≡ some w (λ k. bit l k && f k))

  -- no bit is left: none passes
  pub left_end : (l : ℕ) → Left l → l ≡ 0 → some w (λ k. bit m k && f k) ≡ false
  left_end l s e =
      s.1 ∙ some-none w (λ k. bit l k && f k)
      (λ k h. ap (λ (x : ℕ). bit x k && f k) e ∙ ap (λ (b : Bool). b && f k) (bit-zero k))

  module _ (l r : ℕ) (s : Left l) (h : 0 < l) (e : r ≡ count_trailing_zeros w l) where
    -- the lowest bit is one of the mask
    pub left-lowest : (r < w) × (bit l r ≡ true)
    left-lowest = let t = trailing-lowest w l h s.0 in (omega arith, ap (bit l) e ∙ t.1)

    -- it passes
    pub left-hit : f r ≡ true → some w (λ k. bit m k && f k) ≡ true
    left-hit p = s.1 ∙ some_at w (λ k. bit l k && f k) r left-lowest.0 (ap (λ (b : Bool). b && f r) left-lowest.1 ∙ p)

    -- what its bit is doesn't matter if it doesn't
    other : f r ≡ false → (k : ℕ) → (bit l k && f k) ≡ (bit (bit_xor l (2 ^ r)) k && f k)
    other p k = go (eqb r k) refl
      where
        go : (b : Bool) → eqb r k ≡ b → (bit l k && f k) ≡ (bit (bit_xor l (2 ^ r)) k && f k)
        go true q =
            let out : f k ≡ false = ap f (sym (eqb-true r k q)) ∙ p in
            rw (out, and-false (bit l k), and-false (bit (bit_xor l (2 ^ r)) k))
        go false q =
            ap (λ (b : Bool). b && f k)
            (sym (bit-xor l (2 ^ r) k ∙ ap (xor (bit l k)) (bit-pow r k ∙ q) ∙ xor-false (bit l k)))

    -- without it the mask is smaller
    pub left_less : (b : ℕ) → b ≡ 2 ^ r → bit_xor l b < l
    left_less b q = omega (arith, ap (bit_xor l) q, xor-pow l r left-lowest.1, pow_pos r)

    -- it doesn't pass: the bits left without it decide
    pub left-more : (b : ℕ) → b ≡ 2 ^ r → f r ≡ false → Left (bit_xor l b)
    left-more b q p = (
      omega (arith, left_less b q),
      s.1 ∙ some_same w (λ k. bit l k && f k) (λ k. bit (bit_xor l (2 ^ r)) k && f k) (λ k i. other p k)
          ∙ ap (λ (x : ℕ). some w (λ k. bit (bit_xor l x) k && f k)) (sym q),
    )
