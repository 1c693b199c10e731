-- A mask within a width, or within another mask: it is no greater, and has no more bits.
use Prim.Native.Nat.{ℕ, zero, suc, ◌/◌, ◌%◌, ◌^◌, ◌≤◌, ◌<◌}
use mathlib.Core.Path.{◌≡◌, refl, sym, ap, ◌∙◌, subst}
use mathlib.Core.Bool.{Bool, true, false, true≢false}
use native.Mathlib.Omega.{arith}
use lib.Dec.{eqb, ltb}
use lib.Bits.{and_le_r}
use lib.Count.{ones, ones_step}
use borrow.Author.Tests.{ltb-true, ltb-false, eqb-true}
use Rattle.masks.specs.Bit.{bit}
use Rattle.masks.proofs.BitLaws.{bit-suc, bit-low, bit_past}
use Rattle.masks.proofs.PowerLaws.{lt-pow}
use Rattle.masks.proofs.SubsetLaws.{subset}

-- a bit that is set is below the width
pub bit_below : (w m k : ℕ) → m < 2 ^ w → bit m k ≡ true → k < w
bit_below w m k h i = go (ltb k w) refl
  where
    go : (b : Bool) → ltb k w ≡ b → k < w
    go true e = ltb-true k w e
    go false e = absurd (true≢false (sym i ∙ bit_past w m k h (ltb-false k w e)))

-- a mask within another is at most the other
pub within-le : (a b : ℕ) → ((k : ℕ) → bit a k ≡ true → bit b k ≡ true) → a ≤ b
within-le a b f = subst (λ (m : ℕ). m ≤ b) ((subset a a b (lt-pow a)).1 f) (and_le_r a b)

-- a digit is at most another that is 1 where it is
digit-le : (x y : ℕ) → x < 2 → (eqb x 1 ≡ true → eqb y 1 ≡ true) → x ≤ y
digit-le zero y h f = omega arith
digit-le (suc zero) y h f = omega (arith, eqb-true y 1 (f refl))
digit-le (suc (suc x)) y h f = absurd (omega arith)

-- a mask within another has at most as many bits, and is the other where it has as many
pub ones-within : (w a b : ℕ) → b < 2 ^ w → ((k : ℕ) → bit a k ≡ true → bit b k ≡ true) →
    (ones a ≤ ones b) × (ones a ≡ ones b → a ≡ b)
ones-within zero a b l f =
    let e : a ≡ b = omega (arith, within-le a b f) in
    (omega (arith, ap ones e), λ q. e)
ones-within (suc w) a b l f =
    let half = ones-within w (a / 2) (b / 2) (omega arith) (λ k i. sym (bit-suc b k) ∙ f (suc k) (bit-suc a k ∙ i)) in
    let low : a % 2 ≤ b % 2 = digit-le (a % 2) (b % 2) (omega arith) (λ i. sym (bit-low b) ∙ f 0 (bit-low a ∙ i)) in
    let more : ones (a / 2) ≤ ones (b / 2) = half.0 in (
      omega (arith, ones_step a, ones_step b),
      λ q. let e : a / 2 ≡ b / 2 = half.1 (omega (arith, ones_step a, ones_step b)) in omega (arith, ones_step a, ones_step b, ap ones e),
    )
