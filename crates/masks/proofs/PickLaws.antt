-- Laws for a loop that takes the bits of a mask away, the lowest first, and gathers those that pass.
use Prim.Native.Nat.{ℕ, ◌^◌, ◌<◌}
use native.Mathlib.Omega.{arith}
use mathlib.Core.Path.{◌≡◌, refl, sym, ap, ap₂, ◌∙◌}
use mathlib.Core.Bool.{Bool, true, false, cond, ◌&&◌, ◌||◌, xor, or-false}
use lib.Dec.{eqb}
use lib.Bits.{bit_or, bit_xor}
use lib.Pow.{pow_pos}
use lib.Count.{count_trailing_zeros}
use borrow.Author.Tests.{eqb-true}
use Rattle.masks.specs.Bit.{bit}
use Rattle.masks.proofs.BitLaws.{bit-or, bit-xor, bit-zero, bit-pow}
use Rattle.masks.proofs.PowerLaws.{trailing-lowest, xor-pow}
use Rattle.masks.proofs.GatherLaws.{bit-if}

-- the bit that is tested: it isn't left, and is gathered if it passes
tested : (r f : Bool) → ((r || f && true) || xor true true && f) ≡ (r || true && f)
unfolding xor
tested true f = refl
tested false true = refl
tested false false = refl

-- another stays as it is
untested : (r l f g : Bool) → ((r || g && false) || xor l false && f) ≡ (r || l && f)
unfolding xor
untested true l f g = refl
untested false true f true = refl
untested false true f false = refl
untested false false f true = refl
untested false false f false = refl

module _ (f : ℕ → Bool) (w m : ℕ) where
  -- of the bits of m those that aren't left in l are tested, and r has those that pass
  abbrev pub Picked : ℕ → ℕ → Type 0
  Picked l r = (l < 2 ^ w) × ((k : ℕ) → (bit r k || bit l k && f k) ≡ (bit m k && f k))

  pub pick-start : m < 2 ^ w → Picked m 0
  pick-start h = (h, λ k. ap (λ (b : Bool). b || bit m k && f k) (bit-zero k))

  -- no bit is left
  pub pick_end : (l r : ℕ) → Picked l r → l ≡ 0 → (k : ℕ) → bit r k ≡ (bit m k && f k)
  pick_end l r s e k =
      sym (or-false (bit r k)) ∙ ap (λ (b : Bool). bit r k || b && f k) (sym (ap (λ (x : ℕ). bit x k) e ∙ bit-zero k)) ∙ s.1 k

  module _ (l r v : ℕ) (s : Picked l r) (h : 0 < l) (e : v ≡ count_trailing_zeros w l) where
    -- the lowest bit is one of the mask
    pub pick-lowest : (v < w) × (bit l v ≡ true)
    pick-lowest = let t = trailing-lowest w l h s.0 in (omega arith, ap (bit l) e ∙ t.1)

    -- without it the mask is smaller
    pub pick_less : (b : ℕ) → b ≡ 2 ^ v → bit_xor l b < l
    pick_less b q = omega (arith, ap (bit_xor l) q, xor-pow l v pick-lowest.1, pow_pos v)

    -- it is tested
    pub pick_more : (b o : ℕ) → b ≡ 2 ^ v → o ≡ cond (f v) b 0 → Picked (bit_xor l b) (bit_or r o)
    pick_more b o q p = (
      omega (arith, pick_less b q),
      λ k.
          ap₂ (λ (x y : Bool). x || y && f k)
          (bit-or r o k ∙ ap (λ (x : Bool). bit r k || x)
          (ap (λ (x : ℕ). bit x k) (p ∙ ap (λ (x : ℕ). cond (f v) x 0) q) ∙ bit-if (f v) v k))
          (ap (λ (x : ℕ). bit (bit_xor l x) k) q ∙ bit-xor l (2 ^ v) k ∙ ap (xor (bit l k)) (bit-pow v k))
          ∙ go k (eqb v k) refl ∙ s.1 k,
    )
      where
        go : (k : ℕ) (c : Bool) → eqb v k ≡ c → ((bit r k || f v && c) || xor (bit l k) c && f k) ≡ (bit r k || bit l k && f k)
        go k true z =
            let i : v ≡ k = eqb-true v k z in
            rw (ap f i, ap (bit l) (sym i) ∙ pick-lowest.1) (tested (bit r k) (f k))
        go k false z = untested (bit r k) (bit l k) (f k) (f v)
