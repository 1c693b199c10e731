-- What comparisons of whole masks say of their bits.
use Prim.Native.Nat.{ℕ, zero, suc, ◌*◌, ◌/◌, ◌^◌, ◌<◌}
use mathlib.Core.Path.{◌≡◌, refl, sym, ap, ◌∙◌}
use mathlib.Core.Logic.{◌↔◌}
use mathlib.Core.Bool.{Bool, true, false, not, ◌&&◌, xor, and_comm}
use native.Mathlib.Nat.{lt_of_le_of_lt, div-mul-le_self, mul-pos, zero-mul, zero-lt-suc}
use native.Mathlib.Omega.{arith}
use lib.Dec.{eqb, leb, eqb-suc-zero}
use lib.Pow.{pow_pos}
use lib.Bits.{bit_and, and_le_l}
use borrow.Author.Tests.{eqb-true, eqb-false, ne_eqb}
use Rattle.lists.specs.Below.{some}
use Rattle.lists.proofs.SomeLaws.{some-none, some_same, none-at}
use Rattle.masks.specs.Bit.{bit}
use Rattle.lists.proofs.BoolLaws.{and_r, and-within, xor_self, xor-none, xor-false, xor-and}
use Rattle.masks.proofs.BitLaws.{bit-and, bit-zero, bit-ext}
use Rattle.masks.proofs.PowerLaws.{bit_high}

-- two masks are unequal exactly where some bit differs; f is the test for that
pub unequal : (w a b : ℕ) (f : ℕ → Bool) → a < 2 ^ w → b < 2 ^ w → ((k : ℕ) → xor (bit a k) (bit b k) ≡ f k) → some w f ≡ not (eqb a b)
unequal w a b f h l d = go (eqb a b) refl
  where
    found : (s : Bool) → some w f ≡ s → eqb a b ≡ false → s ≡ true
    found true q e = refl
    found false q e = absurd (eqb-false a b e (bit-ext w a b h l (λ k i. xor-none (bit a k) (bit b k) (d k ∙ none-at w f k q i))))

    go : (t : Bool) → eqb a b ≡ t → some w f ≡ not t
    go true e = some-none w f (λ k i. sym (d k) ∙ ap (λ (x : ℕ). xor (bit x k) (bit b k)) (eqb-true a b e) ∙ xor_self (bit b k))
    go false e = found (some w f) refl e

-- a has a bit that b lacks exactly where a is not within b
pub lacks : (w a b : ℕ) → a < 2 ^ w → some w (λ m. bit a m && not (bit b m)) ≡ not (eqb (bit_and a b) a)
lacks w a b h =
    unequal w (bit_and a b) a (λ m. bit a m && not (bit b m)) (lt_of_le_of_lt (and_le_l a b) h) h
    (λ m. ap (λ (t : Bool). xor t (bit a m)) (bit-and a b m) ∙ xor-and (bit a m) (bit b m))

-- a is within b exactly when b has every bit of a
pub subset : (w a b : ℕ) → a < 2 ^ w → (bit_and a b ≡ a) ↔ ((m : ℕ) → bit a m ≡ true → bit b m ≡ true)
subset w a b h = (
  λ e m i. and_r (bit a m) (bit b m) (sym (bit-and a b m) ∙ ap (λ (x : ℕ). bit x m) e ∙ i),
  λ f. bit-ext w (bit_and a b) a (lt_of_le_of_lt (and_le_l a b) h) h (λ k l. bit-and a b k ∙ and-within (bit a k) (bit b k) (f k)),
)

-- a mask has a bit exactly where it is not 0
pub none-set : (w a : ℕ) → a < 2 ^ w → some w (bit a) ≡ not (eqb a 0)
none-set w a h = unequal w a 0 (bit a) h (pow_pos w) (λ k. ap (xor (bit a k)) (bit-zero k) ∙ xor-false (bit a k))

-- a number shifted up is 0 where the number is
shifted-zero : (q l : ℕ) → eqb (q * 2 ^ l) 0 ≡ eqb q 0
shifted-zero zero l = ap (λ (x : ℕ). eqb x 0) (zero-mul (2 ^ l))
shifted-zero (suc q) l =
    let p : 0 < suc q * 2 ^ l = mul-pos (zero-lt-suc q) (pow_pos l) in
    ne_eqb (suc q * 2 ^ l) 0 (omega arith) ∙ sym (eqb-suc-zero q)

-- a mask has a bit at l or past it exactly where shifting it down by l leaves something
pub past-limit : (w l m : ℕ) → m < 2 ^ w → some w (λ x. bit m x && leb l x) ≡ not (eqb (m / 2 ^ l) 0)
past-limit w l m h =
    let high : ℕ = m / 2 ^ l * 2 ^ l in
    some_same w (λ x. bit m x && leb l x) (bit high) (λ x i. and_comm (bit m x) (leb l x) ∙ sym (bit_high m l x))
    ∙ none-set w high (lt_of_le_of_lt (div-mul-le_self m (2 ^ l)) h)
    ∙ ap not (shifted-zero (m / 2 ^ l) l)
