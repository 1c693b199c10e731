-- A condition that is printed is read back, whatever stands behind it that is no digit.
use Prim.Native.Nat.{ℕ, suc, ◌≤◌, zero, ◌<◌, ◌^◌}
use mathlib.Core.Path.{◌≡◌, refl, ap, ◌∙◌}
use mathlib.Core.Bool.{true, ◌&&◌, Bool, false, cond}
use mathlib.Core.List.{List, [], ◌∷◌, ◌++◌, append_assoc}
use native.Mathlib.Omega.{arith}
use lib.Dec.{leb, ltb}
use borrow.Author.Tests.{leb-true, eq-eqb, ltb-true, ltb-false}
use Rattle.lists.proofs.BoolLaws.{and_l, and_r}
use Rattle.text_format.specs.Bytes.{space, equals, not_word, open_word, and_word, or_word, close_word}
use Rattle.text_format.specs.Condition.{Condition, deeper, levels, max_number, max_value, fits, decimal, printed, returns, ends, negated, both, either}
use Rattle.text_format.specs.Reading.{Read, word, not_digit, digits, number, atom, joint, negation, bracket, opening, condition, got}
use Rattle.text_format.proofs.DecimalLaws.{number-printed}

-- no digit stands first
abbrev pub no_digit : List ℕ → Bool
no_digit [] = true
no_digit (c ∷ s) = not_digit c

pub digits-done : (most v : ℕ) (s : List ℕ) → no_digit s ≡ true → digits most v s ≡ got v s
unfolding digits
digits-done most v [] h = refl
digits-done most v (c ∷ s) h = rw h

pub number-back : (most v : ℕ) (s : List ℕ) → v ≤ most → v < 10 ^ 10 → no_digit s ≡ true → number most (decimal v ++ s) ≡ got v s
number-back most v s l p h = number-printed 9 most v s p l ∙ digits-done most v s h

pub word_back : (w s : List ℕ) → word w (w ++ s) ≡ got [] s
unfolding word
word_back [] s = refl
word_back (b ∷ w) s = rw (eq-eqb b b refl) (word_back w s)

module _ (made : ℕ → ℕ → Condition) (k v : ℕ) (s : List ℕ) (f : (leb k max_number && leb v max_value) ≡ true)
    (h : no_digit s ≡ true) where
  atom-back : atom made (decimal k ++ (equals ∷ (decimal v ++ s))) ≡ got (made k v) s
  unfolding atom word
  atom-back =
      let a : k ≤ max_number = leb-true k max_number (and_l (leb k max_number) (leb v max_value) f) in
      let b : v ≤ max_value = leb-true v max_value (and_r (leb k max_number) (leb v max_value) f) in
      rw (number-back max_number k (equals ∷ (decimal v ++ s)) a (omega arith) refl, number-back max_value v s b (omega arith) h)

module _ (inner : List ℕ → Read Condition) where
  not_back : (c : Condition) (t s : List ℕ) → inner t ≡ got c s → negation inner (not_word ++ t) ≡ got (negated c) s
  unfolding negation word
  not_back c t s e = rw e

  and-back : (l r : Condition) (t u s : List ℕ) → inner t ≡ got l (space ∷ (and_word ++ u)) → inner u ≡ got r (close_word ++ s)
      → bracket inner (open_word ++ t) ≡ got (both l r) s
  unfolding bracket joint word
  and-back l r t u s e f = rw (e, f)

  or-back : (l r : Condition) (t u s : List ℕ) → inner t ≡ got l (space ∷ (or_word ++ u)) → inner u ≡ got r (close_word ++ s)
      → bracket inner (open_word ++ t) ≡ got (either l r) s
  unfolding bracket joint word
  or-back l r t u s e f = rw (e, f)

deeper-l : (a b : ℕ) → a ≤ deeper a b
deeper-l a b = go (ltb a b) refl
  where
    go : (t : Bool) → ltb a b ≡ t → a ≤ cond t b a
    go true e = let l = ltb-true a b e in omega arith
    go false e = omega arith

deeper-r : (a b : ℕ) → b ≤ deeper a b
deeper-r a b = go (ltb a b) refl
  where
    go : (t : Bool) → ltb a b ≡ t → b ≤ cond t b a
    go true e = omega arith
    go false e = ltb-false a b e

sides : (p w q e s : List ℕ) → p ++ w ++ q ++ e ++ s ≡ p ++ (w ++ (q ++ (e ++ s)))
sides p w q e s = simp append_assoc

-- a condition of at most so many levels is read back
pub condition-back : (c : Condition) (d : ℕ) (s : List ℕ) → levels c ≤ d → fits c ≡ true → no_digit s ≡ true
    → condition d (printed c ++ s) ≡ got c s
unfolding condition printed opening
condition-back (returns k v) zero s l f h = ap (atom returns) (append_assoc (decimal k) (equals ∷ decimal v) s)
    ∙ atom-back returns k v s f h
condition-back (returns k v) (suc d) s l f h = ap (atom returns) (append_assoc (decimal k) (equals ∷ decimal v) s)
    ∙ atom-back returns k v s f h
condition-back (ends k v) zero s l f h = ap (atom ends) (append_assoc (decimal k) (equals ∷ decimal v) s)
    ∙ atom-back ends k v s f h
condition-back (ends k v) (suc d) s l f h = ap (atom ends) (append_assoc (decimal k) (equals ∷ decimal v) s)
    ∙ atom-back ends k v s f h
condition-back (negated c) zero s l f h = absurd (omega arith)
condition-back (negated c) (suc d) s l f h = not_back (condition d) c (printed c ++ s) s (condition-back c d s (omega arith) f h)
condition-back (both p q) zero s l f h = absurd (omega arith)
condition-back (both p q) (suc d) s l f h =
    ap (λ (t : List ℕ). bracket (λ r. condition d r) (open_word ++ t)) (sides (printed p) (space ∷ and_word)
    (printed q) close_word s)
    ∙ and-back (λ r. condition d r) p q _ (printed q ++ (close_word ++ s)) s
    (condition-back p d _ (omega (arith, deeper-l (levels p) (levels q))) (and_l (fits p) (fits q) f) refl)
    (condition-back q d (close_word ++ s) (omega (arith, deeper-r (levels p) (levels q))) (and_r (fits p) (fits q) f) refl)
condition-back (either p q) zero s l f h = absurd (omega arith)
condition-back (either p q) (suc d) s l f h =
    ap (λ (t : List ℕ). bracket (λ r. condition d r) (open_word ++ t)) (sides (printed p) (space ∷ or_word) (printed q) close_word s)
    ∙ or-back (λ r. condition d r) p q _ (printed q ++ (close_word ++ s)) s
    (condition-back p d _ (omega (arith, deeper-l (levels p) (levels q))) (and_l (fits p) (fits q) f) refl)
    (condition-back q d (close_word ++ s) (omega (arith, deeper-r (levels p) (levels q))) (and_r (fits p) (fits q) f) refl)
