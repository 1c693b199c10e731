-- The bits of a mask as an ascending list: laws for a loop that takes them away, the lowest first.
use Prim.Native.Nat.{ℕ, ◌^◌, ◌≤◌, ◌<◌}
use native.Mathlib.Omega.{arith}
use mathlib.Core.Path.{◌≡◌, refl, sym, ap, ◌∙◌}
use mathlib.Core.Bool.{Bool, true, ◌&&◌, xor}
use mathlib.Core.List.{List, [], ◌∷◌}
use lib.ListN.{length}
use lib.Bits.{bit_xor}
use lib.Pow.{pow_pos}
use lib.Count.{count_trailing_zeros}
use lib.Dec.{ltb, eqb}
use borrow.Author.Tests.{eq-eqb, ne_eqb}
use Rattle.lists.specs.Below.{below}
use Rattle.lists.specs.Lists.{keep}
use Rattle.lists.proofs.BoolLaws.{xor-false}
use Rattle.lists.proofs.BelowLaws.{below-few, below-under}
use Rattle.lists.proofs.QueueLaws.{kept-none, queue-same, queue-leaves}
use Rattle.masks.specs.Bit.{bit}
use Rattle.masks.specs.MaskOf.{mask_of}
use Rattle.masks.proofs.BitLaws.{bit-xor, bit-zero, bit-pow}
use Rattle.masks.proofs.PowerLaws.{trailing-lowest, xor-pow}
use Rattle.masks.proofs.MaskOfLaws.{mask_below}

module _ (w : ℕ) where
  -- the bits of a mask
  abbrev pub bits : ℕ → List ℕ
  bits m = keep (bit m) (below w)

  pub bits-few : (m : ℕ) → length (bits m) ≤ w
  bits-few m = below-few (bit m) w

  pub bits_none : (m : ℕ) → m ≡ 0 → bits m ≡ []
  bits_none m e = kept-none (bit m) 0 w (λ k l. ap (λ (x : ℕ). bit x k) e ∙ bit-zero k)

  -- those of the mask of the numbers that pass
  pub bits-mask : (f : ℕ → Bool) (n : ℕ) → n ≤ w → bits (mask_of (keep f (below n))) ≡ keep f (below n)
  bits-mask f n l =
      queue-same (bit (mask_of (keep f (below n)))) (λ k. ltb k n && f k) w (mask_below f n)
      ∙ below-under f n w l

  -- The lowest bit r is taken away.
  module _ (m r b : ℕ) (h : 0 < m) (l : m < 2 ^ w) (e : r ≡ count_trailing_zeros w m) (q : b ≡ 2 ^ r) where
    pub bits-lowest : (r < w) × (bit m r ≡ true)
    bits-lowest = let t = trailing-lowest w m h l in (omega arith, ap (bit m) e ∙ t.1)

    -- fewer are left
    pub bits-less : bit_xor m b < m
    bits-less = omega (arith, ap (bit_xor m) q, xor-pow m r bits-lowest.1, pow_pos r)

    bit-rest : (k : ℕ) → bit (bit_xor m b) k ≡ xor (bit m k) (eqb r k)
    bit-rest k = ap (λ (x : ℕ). bit (bit_xor m x) k) q ∙ bit-xor m (2 ^ r) k ∙ ap (xor (bit m k)) (bit-pow r k)

    -- a bit other than r stays
    bit-other : (k : ℕ) → (r ≡ k → ⊥) → bit (bit_xor m b) k ≡ bit m k
    bit-other k d = bit-rest k ∙ ap (xor (bit m k)) (ne_eqb r k d) ∙ xor-false (bit m k)

    pub bits-next : bits m ≡ r ∷ bits (bit_xor m b)
    unfolding xor
    bits-next =
        queue-leaves (bit m) (bit (bit_xor m b)) r bits-lowest.1
        (bit-rest r ∙ ap (λ (x : Bool). xor x (eqb r r)) bits-lowest.1 ∙ ap (xor true) (eq-eqb r r refl)) w bits-lowest.0
        (λ x i.
        let none = (trailing-lowest w m h l).2 x (omega arith) in
        (none, bit-other x (λ z. absurd (omega arith)) ∙ none))
        (λ x i. sym (bit-other x (λ z. absurd (omega arith))))
