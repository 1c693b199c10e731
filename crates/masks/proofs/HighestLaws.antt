-- The highest bit of a mask, and of the numbers below n the last that passes.
use Prim.Native.Nat.{ℕ, suc, ◌^◌, ◌/◌, ◌%◌, ◌≤◌, ◌<◌}
use native.Mathlib.Omega.{arith}
use native.Mathlib.Nat.{lt_of_le_of_lt, le_antisymm, le-div_iff_mul-le, div-lt_iff_lt-mul}
use mathlib.Core.Path.{◌≡◌, refl, sym, ap, ◌∙◌}
use mathlib.Core.Bool.{Bool, true, false, ◌&&◌}
use mathlib.Core.Logic.{⊎_elim}
use lib.Count.{count_leading_zeros, leading_top}
use lib.Pow.{pow_pos}
use lib.Dec.{ltb}
use borrow.Author.Tests.{ltb-true, ltb-false, eq-eqb}
use Rattle.lists.specs.Below.{below}
use Rattle.lists.specs.Lists.{has, keep, last_or}
use Rattle.lists.proofs.BoolLaws.{and_l, and_r, not-either}
use Rattle.lists.proofs.MemberLaws.{has-below}
use Rattle.lists.proofs.LatestLaws.{last-either, last-highest}
use Rattle.masks.specs.Bit.{bit}
use Rattle.masks.specs.MaskOf.{mask_of}
use Rattle.masks.specs.Parts.{highest}
use Rattle.masks.proofs.BitLaws.{bit_past, bit-zero}
use Rattle.masks.proofs.MaskOfLaws.{mask_below, mask-below-lt}
use Rattle.masks.proofs.BelowLaws.{mask_at}

-- it is set, and none above it is
pub highest-set : (m : ℕ) → 0 < m → m < 2 ^ 32 →
    (count_leading_zeros 32 m < 32) × (bit m (highest m) ≡ true) × ((k : ℕ) → highest m < k → bit m k ≡ false)
highest-set m p h =
    let r = leading_top 32 m p h in
    let j : ℕ = r.0 in
    let e : highest m ≡ j = omega (arith, r.1) in
    let low : 1 ≤ m / 2 ^ j = (le-div_iff_mul-le {k = 2 ^ j} {x = 1} {y = m} (pow_pos j)).1 (omega (arith, r.2)) in
    let high : m / 2 ^ j < 2 = (div-lt_iff_lt-mul {k = 2 ^ j} {x = m} {y = 2} (pow_pos j)).1 (omega (arith, r.3)) in
    let one : m / 2 ^ j % 2 ≡ 1 = omega arith in (
      omega (arith, r.1),
      ap (bit m) e ∙ eq-eqb (m / 2 ^ j % 2) 1 one,
      λ k l. bit_past (suc j) m k r.3 (omega arith),
    )

module _ (f : ℕ → Bool) (n : ℕ) where
  abbrev mask : ℕ
  mask = mask_of (keep f (below n))

  -- none passes
  pub mask-none-last : mask ≡ 0 → last_or f n (below n) ≡ n
  mask-none-last e =
      ⊎_elim (λ (q : last_or f n (below n) ≡ n). q)
      (λ q. absurd (not-either _ q.1 (sym (mask_at f n z (below-lt q)) ∙ ap (λ (m : ℕ). bit m z) e ∙ bit-zero z)))
      (last-either f n (below n))
    where
      z : ℕ
      z = last_or f n (below n)

      below-lt : (has z (below n) ≡ true) × (f z ≡ true) → z < n
      below-lt q = ltb-true z n (sym (has-below n z) ∙ q.0)

  -- the highest of them is the last that passes
  pub mask-last : n ≤ 32 → (mask ≡ 0 → ⊥) → (last_or f n (below n) ≡ highest mask) × (highest mask < n)
  mask-last l e = (le_antisymm upper top.0, lt_of_le_of_lt top.0 top.1)
    where
      set : (count_leading_zeros 32 mask < 32) × (bit mask (highest mask) ≡ true) × ((k : ℕ) → highest mask < k → bit mask k ≡ false)
      set = highest-set mask (omega (arith, e)) (mask-below-lt f n 32 l)

      passes : (ltb (highest mask) n && f (highest mask)) ≡ true
      passes = sym (mask_below f n (highest mask)) ∙ set.1

      top : (highest mask ≤ last_or f n (below n)) × (last_or f n (below n) < n)
      top =
          last-highest f n n (highest mask) (ltb-true _ _ (and_l (ltb (highest mask) n) _ passes))
          (and_r (ltb (highest mask) n) _ passes)

      hit : f (last_or f n (below n)) ≡ true
      hit = ⊎_elim (λ q. absurd (omega (arith, top.1))) (λ q. q.1) (last-either f n (below n))

      upper : last_or f n (below n) ≤ highest mask
      upper = go (ltb (highest mask) (last_or f n (below n))) refl
        where
          go : (b : Bool) → ltb (highest mask) (last_or f n (below n)) ≡ b → last_or f n (below n) ≤ highest mask
          go true q =
              absurd (not-either _ (mask_at f n (last_or f n (below n)) top.1 ∙ hit) (set.2 _ (ltb-true _ _ q)))
          go false q = ltb-false _ _ q
