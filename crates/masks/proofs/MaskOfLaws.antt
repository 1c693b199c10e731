-- Laws of the mask of a list.
use Prim.Native.Nat.{ℕ, suc, ◌^◌, ◌≤◌, ◌<◌}
use mathlib.Core.Path.{◌≡◌, refl, sym, ap, ap₂, ◌∙◌}
use mathlib.Core.Bool.{Bool, true, not, ◌&&◌, ◌||◌, or_comm}
use mathlib.Core.List.{List, [], ◌∷◌}
use native.Mathlib.Omega.{arith}
use lib.Dec.{eqb, ltb}
use lib.ListN.{length}
use lib.Pow.{pow_pos, pow-lt}
use lib.Bits.{bit_and, or_lt}
use lib.Count.{ones}
use borrow.Author.Tests.{ltb-true, eqb-true, eq-eqb, not-true}
use Rattle.lists.specs.Below.{below}
use Rattle.lists.specs.Lists.{all, has, keep, distinct}
use Rattle.masks.specs.Bit.{bit}
use Rattle.masks.specs.MaskOf.{mask_of}
use Rattle.lists.proofs.BoolLaws.{and_l, and_r, bool-ext, eqb_comm}
use Rattle.lists.proofs.ListLaws.{all_keep, all-has}
use Rattle.lists.proofs.MemberLaws.{has_all, all_from, kept-has}
use Rattle.masks.proofs.BitLaws.{bit-or, bit-zero, bit-pow}
use Rattle.masks.proofs.PowerLaws.{lt-pow, ones-or}
use Rattle.masks.proofs.SubsetLaws.{subset}

-- the bits of the mask are the entries of the list
pub mask-has : (p : List ℕ) (k : ℕ) → bit (mask_of p) k ≡ has k p
unfolding mask_of
mask-has [] k = bit-zero k
mask-has (e ∷ p) k =
    bit-or (mask_of p) (2 ^ e) k ∙ or_comm (bit (mask_of p) k) (bit (2 ^ e) k)
    ∙ ap₂ (λ (s t : Bool). s || t) (bit-pow e k ∙ eqb_comm e k) (mask-has p k)

-- entries below w make a mask of width w
pub mask_lt : (w : ℕ) (p : List ℕ) → all (λ e. ltb e w) p ≡ true → mask_of p < 2 ^ w
unfolding mask_of
mask_lt w [] h = pow_pos w
mask_lt w (e ∷ p) h =
    let rest : Bool = all (λ x. ltb x w) p in
    or_lt w (mask_of p) (2 ^ e) (mask_lt w p (and_r (ltb e w) rest h)) (pow-lt (ltb-true e w (and_l (ltb e w) rest h)))

-- the bits of the mask are the numbers below n that pass
pub mask_below : (f : ℕ → Bool) (n k : ℕ) → bit (mask_of (keep f (below n))) k ≡ (ltb k n && f k)
mask_below f n k = mask-has (keep f (below n)) k ∙ kept-has f n k

-- the mask is one of w bits
pub mask-below-lt : (f : ℕ → Bool) (n w : ℕ) → n ≤ w → mask_of (keep f (below n)) < 2 ^ w
mask-below-lt f n w h = mask_lt w (keep f (below n)) (all_keep (λ e. ltb e w) f (below n) (all_from w 0 n (omega arith)))

-- the mask of distinct entries has as many bits as the list has entries
pub mask-ones : (p : List ℕ) → distinct p ≡ true → ones (mask_of p) ≡ length p
unfolding mask_of ones
mask-ones [] h = refl
mask-ones (e ∷ p) h =
    ones-or (mask_of p) e (mask-has p e ∙ not-true (has e p) (and_l (not (has e p)) (distinct p) h))
    ∙ ap suc (mask-ones p (and_r (not (has e p)) (distinct p) h))

-- the mask of a list is within b exactly when each entry has its bit in b
pub mask-subset : (p : List ℕ) (b : ℕ) → eqb (bit_and (mask_of p) b) (mask_of p) ≡ all (bit b) p
mask-subset p b =
    let m : ℕ = mask_of p in
    let within = subset m m b (lt-pow m) in
    bool-ext (eqb (bit_and m b) m) (all (bit b) p)
    (λ q. has_all (bit b) p (λ k i. within.0 (eqb-true (bit_and m b) m q) k (mask-has p k ∙ i)))
    (λ q. eq-eqb (bit_and m b) m (within.1 (λ k i. all-has (bit b) p k q (sym (mask-has p k) ∙ i))))
