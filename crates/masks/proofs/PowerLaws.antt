-- Laws of masks and powers of two.
use Prim.Native.Nat.{ℕ, zero, suc, ◌+◌, ◌*◌, ◌/◌, ◌%◌, ◌^◌, ◌<◌}
use mathlib.Core.Path.{◌≡◌, refl, sym, ap, ap₂, ◌∙◌}
use mathlib.Core.Bool.{Bool, true, false, cond, ◌&&◌, or-true, and-false}
use native.Mathlib.Nat.{div-one, mul-one}
use native.Mathlib.Omega.{arith}
use lib.Dec.{eqb, leb, leb-zero, leb-suc-zero, leb-suc-suc}
use lib.Pow.{pow_pos}
use lib.Bits.{bit_and, bit_or, bit_xor, or_disjoint, xor_add_and, shifted_half, shifted_even}
use lib.Count.{ones, ones_step, count_trailing_zeros, under}
use borrow.Author.Tests.{eqb-true, eqb-false, eq-eqb}
use Rattle.masks.specs.Bit.{bit}
use Rattle.masks.proofs.BitLaws.{half-shr, bit-suc, bit-low, bit_at, bit-at, bit-and, bit-or, bit-zero, bit-pow, bit-ext}

-- a number n has at most n digits
pub lt-pow : (n : ℕ) → n < 2 ^ n
lt-pow zero = omega arith
lt-pow (suc n) = omega (arith, lt-pow n)

-- two numbers with the same bits are the same
pub bits-same : (a b : ℕ) → ((k : ℕ) → bit a k ≡ bit b k) → a ≡ b
bits-same a b e = bit-ext (a + b) a b (omega (arith, lt-pow (a + b))) (omega (arith, lt-pow (a + b))) (λ k l. e k)

-- where e is k, a test of k is a test of e
at_same : (f : ℕ → Bool) (e k : ℕ) → (f k && eqb e k) ≡ (f e && eqb e k)
at_same f e k = go (eqb e k) refl
  where
    go : (t : Bool) → eqb e k ≡ t → (f k && t) ≡ (f e && t)
    go true q = ap (λ (x : ℕ). f x && true) (sym (eqb-true e k q))
    go false q = and-false (f k) ∙ sym (and-false (f e))

-- a mask and one bit: that bit where the mask has it
and_is : (m e : ℕ) → bit_and m (2 ^ e) ≡ cond (bit m e) (2 ^ e) 0
and_is m e =
    bits-same (bit_and m (2 ^ e)) (cond (bit m e) (2 ^ e) 0)
    (λ k. bit-and m (2 ^ e) k ∙ ap (λ (t : Bool). bit m k && t) (bit-pow e k) ∙ at_same (bit m) e k
    ∙ elim (bit m e) as (λ t. (t && eqb e k) ≡ bit (cond t (2 ^ e) 0) k) [ true ↦ sym (bit-pow e k) | false ↦ sym (bit-zero k) ])

-- a mask and a bit that it lacks
pub and_pow : (m e : ℕ) → bit m e ≡ false → bit_and m (2 ^ e) ≡ 0
and_pow m e h = and_is m e ∙ ap (λ (t : Bool). cond t (2 ^ e) 0) h

-- a mask and a bit that it has
pub and-pow-set : (m e : ℕ) → bit m e ≡ true → bit_and m (2 ^ e) ≡ 2 ^ e
and-pow-set m e h = and_is m e ∙ ap (λ (t : Bool). cond t (2 ^ e) 0) h

-- to set a bit that is clear is to add its power
pub or-pow : (m e : ℕ) → bit m e ≡ false → bit_or m (2 ^ e) ≡ m + 2 ^ e
or-pow m e h = or_disjoint m (2 ^ e) (and_pow m e h)

-- to flip a bit that is set is to take its power away
pub xor-pow : (m e : ℕ) → bit m e ≡ true → bit_xor m (2 ^ e) + 2 ^ e ≡ m
xor-pow m e h = omega (arith, xor_add_and m (2 ^ e), and-pow-set m e h)

-- the bit that is set is there
pub bit-set : (m e : ℕ) → bit (bit_or m (2 ^ e)) e ≡ true
bit-set m e = bit-or m (2 ^ e) e ∙ rw (bit-pow e e, eq-eqb e e refl) (or-true (bit m e))

-- to set a clear bit and flip it changes nothing
pub xor-or : (m e : ℕ) → bit m e ≡ false → bit_xor (bit_or m (2 ^ e)) (2 ^ e) ≡ m
xor-or m e h = omega (arith, xor-pow (bit_or m (2 ^ e)) e (bit-set m e), or-pow m e h)

-- to add the power of a clear bit is to have one bit more
ones-add : (m e : ℕ) → bit_at m e ≡ false → ones (m + 2 ^ e) ≡ suc (ones m)
ones-add m zero h =
    let half : (m + 1) / 2 ≡ m / 2 = omega (arith, eqb-false (m % 2) 1 h) in
    omega (arith, eqb-false (m % 2) 1 h, ones_step (m + 1), ones_step m, ap ones half)
ones-add m (suc e) h =
    let half : (m + 2 ^ suc e) / 2 ≡ m / 2 + 2 ^ e = omega arith in
    omega (arith, ones_step (m + 2 ^ suc e), ones_step m, ap ones half, ones-add (m / 2) e h)

-- to set a clear bit is to have one bit more
pub ones-or : (m e : ℕ) → bit m e ≡ false → ones (bit_or m (2 ^ e)) ≡ suc (ones m)
ones-or m e h = ap ones (or-pow m e h) ∙ ones-add m e (bit-at m e ∙ h)

-- shifted down by l and up again, a mask keeps its bits from l on
pub bit_high : (x l k : ℕ) → bit (x / 2 ^ l * 2 ^ l) k ≡ (leb l k && bit x k)
bit_high x zero k = rw leb-zero (ap (λ (y : ℕ). bit y k) (mul-one (x / 1) ∙ div-one x))
bit_high x (suc l) zero =
    bit-low (x / 2 ^ suc l * 2 ^ suc l) ∙ ap (λ (d : ℕ). eqb d 1) (shifted_even (x / 2 ^ suc l) l)
    ∙ sym (ap (λ (t : Bool). t && bit x 0) (leb-suc-zero l))
bit_high x (suc l) (suc k) =
    bit-suc (x / 2 ^ suc l * 2 ^ suc l) k
    ∙ ap (λ (y : ℕ). bit y k) (shifted_half (x / 2 ^ suc l) l ∙ ap (λ (y : ℕ). y * 2 ^ l) (half-shr x l))
    ∙ bit_high (x / 2) l k
    ∙ ap₂ (λ (s t : Bool). s && t) (sym (leb-suc-suc l k)) (sym (bit-suc x k))

-- t is the lowest bit of m, which has w bits
abbrev IsLowest : ℕ → ℕ → ℕ → Type 0
IsLowest w m t = (t < w) × (bit_at m t ≡ true) × ((j : ℕ) → j < t → bit_at m j ≡ false)

-- below the lowest bit of an even number all bits are clear, where they are in its half
clear-below : (m t : ℕ) → m % 2 ≡ 0 → ((j : ℕ) → j < t → bit_at (m / 2) j ≡ false) → (j : ℕ) → j < suc t → bit_at m j ≡ false
clear-below m t e f zero l = ap (λ (d : ℕ). eqb d 1) e
clear-below m t e f (suc j) l = f j (omega arith)

-- the zeros below the lowest bit lead to it, by `bit_at`
trailing_at : (w m : ℕ) → 0 < m → m < 2 ^ w → IsLowest w m (count_trailing_zeros w m)
unfolding count_trailing_zeros
trailing_at zero m p h = absurd (omega arith)
trailing_at (suc w) m p h = go (m % 2) refl (λ q. trailing_at w (m / 2) q (omega arith))
  where
    go : (d : ℕ) → m % 2 ≡ d → (0 < m / 2 → IsLowest w (m / 2) (count_trailing_zeros w (m / 2)))
        → IsLowest (suc w) m (under d (count_trailing_zeros w (m / 2)))
    go zero e ih = let r = ih (omega arith) in (omega arith, r.1, clear-below m (count_trailing_zeros w (m / 2)) e r.2)
    go (suc d) e ih = (omega arith, eq-eqb (m % 2) 1 (omega arith), λ j l. absurd (omega arith))

-- the zeros below the lowest bit lead to it
pub trailing-lowest : (w m : ℕ) → 0 < m → m < 2 ^ w
    → (count_trailing_zeros w m < w) × (bit m (count_trailing_zeros w m) ≡ true) × ((j : ℕ) → j < count_trailing_zeros w m → bit m j ≡ false)
trailing-lowest w m p h =
    let r = trailing_at w m p h in
    (r.0, sym (bit-at m (count_trailing_zeros w m)) ∙ r.1, λ j l. sym (bit-at m j) ∙ r.2 j l)

-- `m & b != 0` for the power b tells that the bit is set
pub set-of : (m e b : ℕ) → b ≡ 2 ^ e → (bit_and m b ≡ 0 → ⊥) → bit m e ≡ true
set-of m e b q n = go (bit m e) refl
  where
    go : (t : Bool) → bit m e ≡ t → t ≡ true
    go true h = refl
    go false h = absurd (n (ap (bit_and m) q ∙ and_pow m e h))

-- `m & b == 0` for the power b tells that the bit is clear
pub clear_of : (m e b : ℕ) → b ≡ 2 ^ e → bit_and m b ≡ 0 → bit m e ≡ false
clear_of m e b q z = go (bit m e) refl
  where
    go : (t : Bool) → bit m e ≡ t → t ≡ false
    go true h = absurd (omega (arith, pow_pos e, sym z ∙ ap (bit_and m) q ∙ and-pow-set m e h))
    go false h = refl
