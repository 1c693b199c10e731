-- The readers of numbers, at a place of a text.
use Prim.Native.Nat.{ℕ, ◌+◌, ◌≤◌, ◌<◌, ◌-◌, ◌*◌}
use mathlib.Core.Path.{◌≡◌, sym, ap, ◌∙◌}
use mathlib.Core.Bool.{true, false, ◌||◌}
use mathlib.Core.List.{List, [], ◌∷◌}
use native.Mathlib.Numerals.{add-one}
use lib.ListN.{length, get_or, drop, drop_of_length-le}
use lib.Seq.{drop-cons}
use lib.Dec.{eqb, ltb}
use Rattle.text_format.specs.Bytes.{zero_digit}
use Rattle.text_format.specs.Reading.{not_digit, may_not_follow, digits, number, got, breach}
use Rattle.text_format.proofs.DecimalLaws.{follows}

-- the code's test of a digit
pub small : (most v d : ℕ) → (eqb v 0 || ltb most (10 * v + d)) ≡ false → 10 * v + d ≤ most
unfolding may_not_follow
small most v d h = (follows most v d h).1

module _ (s : List ℕ) (k : ℕ) where
  -- the byte at k, and the rest
  pub here : k < length s → drop k s ≡ get_or s k 0 ∷ drop (k + 1) s
  here h = drop-cons s k 0 h ∙ ap (λ (n : ℕ). get_or s k 0 ∷ drop n s) (sym (add-one k))

  -- nothing is left at the end
  pub none : length s ≤ k → drop k s ≡ []
  none h = drop_of_length-le s h

  pub number-none : (most : ℕ) → length s ≤ k → number most (drop k s) ≡ breach 19 (drop k s)
  unfolding number
  number-none most h = rw (none h)

  pub number-bad : (most : ℕ) → k < length s → not_digit (get_or s k 0) ≡ true → number most (drop k s) ≡ breach 19 (drop k s)
  unfolding number
  number-bad most h d = rw (here h, d)

  pub number-first : (most : ℕ) → k < length s → not_digit (get_or s k 0) ≡ false →
      number most (drop k s) ≡ digits most (get_or s k 0 - zero_digit) (drop (k + 1) s)
  unfolding number
  number-first most h d = rw (here h, d)

  pub digits-none : (most v : ℕ) → length s ≤ k → digits most v (drop k s) ≡ got v (drop k s)
  unfolding digits
  digits-none most v h = rw (none h)

  module _ (most v : ℕ) (h : k < length s) where
    pub digits-stop : not_digit (get_or s k 0) ≡ true → digits most v (drop k s) ≡ got v (drop k s)
    unfolding digits
    digits-stop d = rw (here h, d)

    pub digits-bad : not_digit (get_or s k 0) ≡ false → (eqb v 0 || ltb most (10 * v + (get_or s k 0 - zero_digit))) ≡ true →
        digits most v (drop k s) ≡ breach 19 (drop k s)
    unfolding digits may_not_follow
    digits-bad d b = rw (here h, d, b)

    pub digits_more : not_digit (get_or s k 0) ≡ false → (eqb v 0 || ltb most (10 * v + (get_or s k 0 - zero_digit))) ≡ false →
        digits most v (drop k s) ≡ digits most (10 * v + (get_or s k 0 - zero_digit)) (drop (k + 1) s)
    unfolding digits may_not_follow
    digits_more d b = rw (here h, d, b)
