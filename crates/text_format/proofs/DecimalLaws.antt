-- A number that is printed is read back, and what is read is what would be printed.
use Prim.Native.Nat.{ℕ, suc, ◌+◌, ◌≤◌, zero, ◌<◌, ◌-◌, ◌*◌, ◌/◌, ◌%◌, ◌^◌}
use mathlib.Core.Path.{◌≡◌, refl, sym, ap, ◌∙◌}
use mathlib.Core.Bool.{true, Bool, false, cond, true≢false}
use mathlib.Core.List.{List, [], ◌∷◌, ◌++◌, append_assoc}
use native.Mathlib.Nat.{pow-suc}
use native.Mathlib.Omega.{arith}
use lib.Dec.{eqb, ltb}
use borrow.Author.Tests.{le-ltb, ne_eqb, ltb-true, ltb-false}
use Rattle.lists.proofs.BoolLaws.{or_left, or_off}
use Rattle.text_format.specs.Bytes.{zero_digit, nine_digit}
use Rattle.text_format.specs.Condition.{decimal_in}
use Rattle.text_format.specs.Reading.{not_digit, may_not_follow, digits, number}

pub digit-range : (c : ℕ) → not_digit c ≡ false → (zero_digit ≤ c) × (c ≤ nine_digit)
digit-range c h = let r = or_off (ltb c zero_digit) (ltb nine_digit c) h in
    (ltb-false c zero_digit r.0, ltb-false nine_digit c r.1)

-- a digit that may follow
module _ (most v d : ℕ) where
  pub follows : may_not_follow most v d ≡ false → (0 < v) × (10 * v + d ≤ most)
  unfolding may_not_follow
  follows h = let a = or_off (eqb v 0) (ltb most (10 * v + d)) h in (pos v a.0, ltb-false most (10 * v + d) a.1)
    where
      pos : (v : ℕ) → eqb v 0 ≡ false → 0 < v
      pos zero h = absurd (true≢false h)
      pos (suc v) h = omega arith

  may-follow : 0 < v → 10 * v + d ≤ most → may_not_follow most v d ≡ false
  unfolding may_not_follow
  may-follow p l = sym (or_left (eqb v 0) _ (ne_eqb v 0 (λ z. omega arith))) ∙ le-ltb most (10 * v + d) l

digit-is : (d : ℕ) → d < 10 → not_digit (zero_digit + d) ≡ false
digit-is d h = rw (le-ltb (zero_digit + d) zero_digit (omega arith), le-ltb nine_digit (zero_digit + d) (omega arith))

div-lt : (n k : ℕ) → n < 10 ^ suc (suc k) → n / 10 < 10 ^ suc k
div-lt n k h = let e : 10 ^ suc (suc k) ≡ 10 ^ suc k * 10 = pow-suc 10 (suc k) in omega arith

minus : (d : ℕ) → zero_digit + d - zero_digit ≡ d
minus d = omega arith

first-digit : (most n : ℕ) (s : List ℕ) → n < 10 → number most ((zero_digit + n % 10) ∷ s) ≡ digits most n s
unfolding number
first-digit most n s h =
    let e : n % 10 ≡ n = omega arith in
    rw (e, digit-is n h, minus n)

next-digit : (most v d : ℕ) (s : List ℕ) → 0 < v → d < 10 → 10 * v + d ≤ most → digits most v ((zero_digit + d) ∷ s)
    ≡ digits most (10 * v + d) s
unfolding digits
next-digit most v d s p h l =
    rw (digit-is d h, minus d, may-follow most v d p l)

-- the digits of a number, with anything behind them, are read up to that
pub number-printed : (k most n : ℕ) (s : List ℕ) → n < 10 ^ suc k → n ≤ most → number most (decimal_in k n ++ s) ≡ digits most n s
unfolding decimal_in
number-printed zero most n s h l = first-digit most n s (omega (arith, h))
number-printed (suc k) most n s h l = go (ltb n 10) refl (λ t. number-printed k most (n / 10) t)
  where
    go : (b : Bool) → ltb n 10 ≡ b → ((t : List ℕ) → n / 10 < 10 ^ suc k → n / 10 ≤ most
        → number most (decimal_in k (n / 10) ++ t) ≡ digits most (n / 10) t) →
        number most (cond b [] (decimal_in k (n / 10)) ++ ((zero_digit + n % 10) ∷ []) ++ s) ≡ digits most n s
    go true e ih = first-digit most n s (ltb-true n 10 e)
    go false e ih =
        let g : 10 ≤ n = ltb-false n 10 e in
        let q : 10 * (n / 10) + n % 10 ≡ n = omega arith in
        ap (number most) (append_assoc (decimal_in k (n / 10)) ((zero_digit + n % 10) ∷ []) s)
        ∙ ih ((zero_digit + n % 10) ∷ s) (div-lt n k h) (omega arith)
        ∙ next-digit most (n / 10) (n % 10) s (omega arith) (omega arith) (omega arith)
        ∙ ap (λ (v : ℕ). digits most v s) q
