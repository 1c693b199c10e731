-- Laws of the bits of a mask, over any width.
use Prim.Native.Nat.{ℕ, zero, suc, ◌+◌, ◌*◌, ◌/◌, ◌%◌, ◌^◌, ◌≤◌, ◌<◌, min, max}
use mathlib.Core.Path.{◌≡◌, refl, sym, ap, ◌∙◌}
use mathlib.Core.Bool.{Bool, true, false, cond, ◌&&◌, ◌||◌, xor}
use native.Mathlib.Nat.{div-one, zero-div, div-eq_of_lt, lt_of_lt_of_le, mul-add-mod_self_right}
use native.Mathlib.Numerals.{one-add}
use native.Mathlib.Omega.{arith}
use lib.Dec.{eqb, eqb-zero-suc, eqb-suc-zero, eqb-suc-suc}
use lib.Pow.{pow_mono, shr-shr}
use lib.Bits.{bit_and, bit_or, bit_xor, differ, and_mask, and_shr, or_shr, xor_shr, and_step, or_step, xor_step}
use Rattle.masks.specs.Bit.{bit}

-- what `(m >> k) & 1 == 1` tests
pub and_one : (m k : ℕ) → eqb (bit_and (m / 2 ^ k) 1) 1 ≡ bit m k
and_one m k = ap (λ (x : ℕ). eqb x 1) (and_mask (m / 2 ^ k) 1)

-- to shift by k + 1 is to halve, then to shift by k
pub half-shr : (m k : ℕ) → m / 2 ^ suc k ≡ m / 2 / 2 ^ k
half-shr m k = ap (λ (j : ℕ). m / 2 ^ j) (sym (one-add k)) ∙ sym (shr-shr m 1 k)

-- bit k + 1 of m is bit k of its half
pub bit-suc : (m k : ℕ) → bit m (suc k) ≡ bit (m / 2) k
bit-suc m k = ap (λ (x : ℕ). eqb (x % 2) 1) (half-shr m k)

-- bit 0 of m is its low digit
pub bit-low : (m : ℕ) → bit m 0 ≡ eqb (m % 2) 1
bit-low m = ap (λ (x : ℕ). eqb (x % 2) 1) (div-one m)

-- bit k of m, by recursion on k
abbrev pub bit_at : ℕ → ℕ → Bool
bit_at m zero = eqb (m % 2) 1
bit_at m (suc k) = bit_at (m / 2) k

-- the two ways to read a bit agree
pub bit-at : (m k : ℕ) → bit_at m k ≡ bit m k
bit-at m zero = sym (bit-low m)
bit-at m (suc k) = bit-at (m / 2) k ∙ sym (bit-suc m k)

-- An operation that works on digits by f works on bits by g, where f and g agree on 0 and 1.
module _ (op f : ℕ → ℕ → ℕ) (g : Bool → Bool → Bool)
    (shr : (a b k : ℕ) → op a b / 2 ^ k ≡ op (a / 2 ^ k) (b / 2 ^ k))
    (step : (a b : ℕ) → op a b ≡ op (a / 2) (b / 2) * 2 + f (a % 2) (b % 2))
    (at00 : eqb (f 0 0 % 2) 1 ≡ g false false) (at01 : eqb (f 0 1 % 2) 1 ≡ g false true)
    (at10 : eqb (f 1 0 % 2) 1 ≡ g true false) (at11 : eqb (f 1 1 % 2) 1 ≡ g true true) where
  -- on one digit
  digit : (x y : ℕ) → x < 2 → y < 2 → eqb (f x y % 2) 1 ≡ g (eqb x 1) (eqb y 1)
  digit zero zero h k = at00
  digit zero (suc zero) h k = at01
  digit (suc zero) zero h k = at10
  digit (suc zero) (suc zero) h k = at11
  digit zero (suc (suc y)) h k = absurd (omega arith)
  digit (suc zero) (suc (suc y)) h k = absurd (omega arith)
  digit (suc (suc x)) y h k = absurd (omega arith)

  -- on the low digits of two masks
  low : (a b : ℕ) → eqb (op a b % 2) 1 ≡ g (eqb (a % 2) 1) (eqb (b % 2) 1)
  low a b =
      ap (λ (x : ℕ). eqb (x % 2) 1) (step a b)
      ∙ ap (λ (x : ℕ). eqb x 1) (mul-add-mod_self_right (op (a / 2) (b / 2)) 2 (f (a % 2) (b % 2)))
      ∙ digit (a % 2) (b % 2) (omega arith) (omega arith)

  -- on bit k of two masks
  bit-op : (a b k : ℕ) → bit (op a b) k ≡ g (bit a k) (bit b k)
  bit-op a b k = ap (λ (x : ℕ). eqb (x % 2) 1) (shr a b k) ∙ low (a / 2 ^ k) (b / 2 ^ k)

-- a bit of the intersection
pub bit-and : (a b k : ℕ) → bit (bit_and a b) k ≡ (bit a k && bit b k)
bit-and = bit-op bit_and min ◌&&◌ and_shr and_step refl refl refl refl

-- a bit of the union
pub bit-or : (a b k : ℕ) → bit (bit_or a b) k ≡ (bit a k || bit b k)
bit-or = bit-op bit_or max ◌||◌ or_shr or_step refl refl refl refl

-- a bit of the symmetric difference
pub bit-xor : (a b k : ℕ) → bit (bit_xor a b) k ≡ xor (bit a k) (bit b k)
unfolding xor
bit-xor = bit-op bit_xor differ xor xor_shr xor_step refl refl refl refl

-- 0 has no bit
pub bit-zero : (k : ℕ) → bit 0 k ≡ false
bit-zero k = ap (λ (x : ℕ). eqb (x % 2) 1) (zero-div (2 ^ k))

-- a power of two has one bit
pub bit-pow : (j k : ℕ) → bit (2 ^ j) k ≡ eqb j k
bit-pow zero zero = refl
bit-pow zero (suc k) = bit-suc 1 k ∙ bit-zero k ∙ sym (eqb-zero-suc k)
bit-pow (suc j) zero =
    let even : 2 ^ suc j % 2 ≡ 0 = omega arith in
    bit-low (2 ^ suc j) ∙ ap (λ (x : ℕ). eqb x 1) even ∙ sym (eqb-suc-zero j)
bit-pow (suc j) (suc k) =
    let half : 2 ^ suc j / 2 ≡ 2 ^ j = omega arith in
    bit-suc (2 ^ suc j) k ∙ ap (λ (x : ℕ). bit x k) half ∙ bit-pow j k ∙ sym (eqb-suc-suc j k)

-- a mask has no bit past its width
pub bit_past : (w m k : ℕ) → m < 2 ^ w → w ≤ k → bit m k ≡ false
bit_past w m k h l = ap (λ (x : ℕ). eqb (x % 2) 1) (div-eq_of_lt (lt_of_lt_of_le h (pow_mono l)))

-- a digit is 1 or 0
digit-is : (x : ℕ) → x < 2 → x ≡ cond (eqb x 1) 1 0
digit-is zero h = refl
digit-is (suc zero) h = refl
digit-is (suc (suc x)) h = absurd (omega arith)

-- two masks with the same bits are the same
pub bit-ext : (w a b : ℕ) → a < 2 ^ w → b < 2 ^ w → ((k : ℕ) → k < w → bit a k ≡ bit b k) → a ≡ b
bit-ext zero a b h k e = omega arith
bit-ext (suc w) a b h k e =
    let half = bit-ext w (a / 2) (b / 2) (omega arith) (omega arith) (λ i l. sym (bit-suc a i) ∙ e (suc i) (omega arith) ∙ bit-suc b i) in
    let bits : eqb (a % 2) 1 ≡ eqb (b % 2) 1 = sym (bit-low a) ∙ e 0 (omega arith) ∙ bit-low b in
    let low : a % 2 ≡ b % 2 = digit-is (a % 2) (omega arith) ∙ ap (λ (t : Bool). cond t 1 0) bits ∙ sym (digit-is (b % 2) (omega arith)) in
    omega arith
