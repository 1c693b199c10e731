-- Numbers of two and four bytes, put together and taken apart.
use Prim.Native.Nat.{ℕ, ◌+◌, ◌*◌, ◌/◌, ◌%◌, ◌^◌, ◌<◌}
use mathlib.Core.Path.{◌≡◌}
use native.Mathlib.Omega.{arith}

-- a number of two bytes is that of its bytes
pub word_of : (n : ℕ) → n < 2 ^ 16 → n % 256 + 256 * (n / 256 % 256) ≡ n
word_of n h = omega arith

pub word_low : (a b : ℕ) → a < 256 → (a + 256 * b) % 256 ≡ a
word_low a b h = omega arith

pub word-high : (a b : ℕ) → a < 256 → b < 256 → (a + 256 * b) / 256 % 256 ≡ b
word-high a b h k = omega arith

-- by its digits, the lowest first
digits : (n a b d i j k l : ℕ) → n ≡ 256 * a + i → a ≡ 256 * b + j → b ≡ 256 * d + k → l ≡ d → i + 256 * j + 65536 * k + 16777216 * l ≡ n
digits n a b d i j k l p q r s = omega arith

-- a number of four bytes is that of its bytes
pub long_of : (n : ℕ) → n < 2 ^ 32 → n % 256 + 256 * (n / 256 % 256) + 65536 * (n / 65536 % 256) + 16777216 * (n / 16777216 % 256) ≡ n
long_of n h =
    let p : n / 65536 ≡ n / 256 / 256 = omega arith in
    let q : n / 16777216 ≡ n / 65536 / 256 = omega arith in
    digits n (n / 256) (n / 65536) (n / 16777216) _ _ _ _ (omega arith) (omega (arith, p)) (omega (arith, q)) (omega arith)

module _ (a b d e : ℕ) (ha : a < 256) (hb : b < 256) (hd : d < 256) (he : e < 256) where
  pub long-0 : (a + 256 * b + 65536 * d + 16777216 * e) % 256 ≡ a
  long-0 = omega arith

  pub long-1 : (a + 256 * b + 65536 * d + 16777216 * e) / 256 % 256 ≡ b
  long-1 = omega arith

  pub long-2 : (a + 256 * b + 65536 * d + 16777216 * e) / 65536 % 256 ≡ d
  long-2 = omega arith

  pub long-3 : (a + 256 * b + 65536 * d + 16777216 * e) / 16777216 % 256 ≡ e
  long-3 = omega arith
