-- Laws for a loop over the bits of a mask, the lowest first: each is one of the mask.
use Prim.Native.Nat.{ℕ, ◌^◌, ◌<◌}
use native.Mathlib.Omega.{arith}
use mathlib.Core.Path.{◌≡◌, refl, sym, ap, ◌∙◌}
use mathlib.Core.Bool.{Bool, true, false, xor}
use lib.Bits.{bit_xor}
use lib.Dec.{eqb}
use lib.Count.{count_trailing_zeros}
use borrow.Author.Tests.{eqb-true}
use Rattle.lists.proofs.BoolLaws.{xor_self, xor-false, not-either}
use Rattle.masks.specs.Bit.{bit}
use Rattle.masks.proofs.BitLaws.{bit-xor, bit-pow}
use Rattle.masks.proofs.LeftLaws.{left-lowest, left_less}

module _ (w m : ℕ) where
  -- the bits of l are bits of m
  abbrev pub Rest : ℕ → Type 0
  Rest l = (l < 2 ^ w) × ((k : ℕ) → bit l k ≡ true → bit m k ≡ true)

  pub rest-start : m < 2 ^ w → Rest m
  rest-start h = (h, λ k i. i)

  module _ (l v : ℕ) (s : Rest l) (h : 0 < l) (e : v ≡ count_trailing_zeros w l) where
    lowest : (v < w) × (bit l v ≡ true)
    lowest = left-lowest (bit l) w l l v (s.0, refl) h e

    pub rest-lowest : (v < w) × (bit m v ≡ true)
    rest-lowest = (lowest.0, s.1 v lowest.1)

    pub rest-less : (b : ℕ) → b ≡ 2 ^ v → bit_xor l b < l
    rest-less b q = left_less (bit l) w l l v (s.0, refl) h e b q

    pub rest_more : (b : ℕ) → b ≡ 2 ^ v → Rest (bit_xor l b)
    rest_more b q = (omega (arith, rest-less b q), λ k i. s.1 k (go k (eqb v k) refl (sym (apart k) ∙ i)))
      where
        apart : (k : ℕ) → bit (bit_xor l b) k ≡ xor (bit l k) (eqb v k)
        apart k = ap (λ (x : ℕ). bit (bit_xor l x) k) q ∙ bit-xor l (2 ^ v) k ∙ ap (xor (bit l k)) (bit-pow v k)

        go : (k : ℕ) (c : Bool) → eqb v k ≡ c → xor (bit l k) (eqb v k) ≡ true → bit l k ≡ true
        go k true z i =
            absurd (not-either _ i
            (ap (xor (bit l k)) (z ∙ sym (ap (bit l) (sym (eqb-true v k z)) ∙ lowest.1)) ∙ xor_self (bit l k)))
        go k false z i = sym (ap (xor (bit l k)) z ∙ xor-false (bit l k)) ∙ i
