-- The answer of a search call is that of a walk along the list; a larger allowance does not change a final answer.
use Prim.Native.Nat.{ℕ, zero, suc, ◌+◌, ◌≤◌, ◌<◌}
use native.Mathlib.Omega.{arith}
use native.Mathlib.Numerals.{add-one}
use native.Mathlib.Nat.{add-zero, zero-add}
use mathlib.Core.Path.{◌≡◌, refl, sym, ap, ◌∙◌}
use mathlib.Core.Bool.{Bool, true, false}
use mathlib.Core.List.{List, [], ◌∷◌}
use lib.ListN.{length, take}
use lib.Seq.{take-nil}
use lib.Dec.{leb, leb-zero, leb-suc-zero, leb-suc-suc}
use Rattle.lists.specs.Lists.{any, first_or, leading}
use Rattle.prefixes.specs.Answer.{Answer, found, none_left, spent, pick, last_visited, answer}
use Rattle.prefixes.specs.Statements.{seek, Final}

-- one more, counted on either side
add-next : (n m : ℕ) → n + suc m ≡ suc n + m
add-next n m = omega arith

module _ (goal : List ℕ → Bool) where
  -- the answer, after n that were visited before
  abbrev answer_from : List (List ℕ) → List ℕ → ℕ → ℕ → Answer
  answer_from l s b n =
      pick (any goal (take b l))
      (found (first_or goal [] l) (n + suc (leading goal l)))
      (pick (leb (length l) b) (none_left (n + length l)) (spent (last_visited s (take b l)) (n + b)))

  -- the walk along the list gives the answer
  seek-from : (l : List (List ℕ)) (s : List ℕ) (b n : ℕ) → answer_from l s b n ≡ seek goal l s b n
  unfolding seek
  seek-from [] s b n = rw (take-nil b, leb-zero b, add-zero n)
  seek-from (p ∷ l) s zero n = rw (leb-suc-zero (length l), add-zero n)
  seek-from (p ∷ l) s (suc b) n = go (goal p) refl (seek-from l p b (suc n))
    where
      go : (g : Bool) → goal p ≡ g → answer_from l p b (suc n) ≡ seek goal l p b (suc n) →
          answer_from (p ∷ l) s (suc b) n ≡ seek goal (p ∷ l) s (suc b) n
      go true e t = rw e (ap (found p) (add-one n))
      go false e t = rw (e, leb-suc-suc (length l) b, add-next n (suc (leading goal l)), add-next n (length l), add-next n b) t

  -- the answer is that of the walk along the list
  pub seek-answer : (l : List (List ℕ)) (s : List ℕ) (b : ℕ) → answer goal l s b ≡ seek goal l s b 0
  unfolding answer
  seek-answer l s b = simp zero-add at (seek-from l s b 0)

  -- a walk along the list that ends by a final answer ends so under a larger allowance too
  seek-larger : (l : List (List ℕ)) (s : List ℕ) (b c n : ℕ) → b ≤ c → Final (seek goal l s b n) →
      seek goal l s c n ≡ seek goal l s b n
  unfolding seek
  seek-larger [] s b c n h f = refl
  seek-larger (p ∷ l) s zero c n h f = absurd f
  seek-larger (p ∷ l) s (suc b) zero n h f = absurd (omega arith)
  seek-larger (p ∷ l) s (suc b) (suc c) n h f = go (goal p) f (seek-larger l p b c (suc n) (omega arith))
    where
      go : (g : Bool) → Final (pick g (found p (suc n)) (seek goal l p b (suc n))) →
          (Final (seek goal l p b (suc n)) → seek goal l p c (suc n) ≡ seek goal l p b (suc n)) →
          pick g (found p (suc n)) (seek goal l p c (suc n)) ≡ pick g (found p (suc n)) (seek goal l p b (suc n))
      go true f t = refl
      go false f t = t f

  -- a larger allowance gives the same answer, if that is found or none left
  pub larger-allowance : (l : List (List ℕ)) (s : List ℕ) (b c : ℕ) → b ≤ c → Final (answer goal l s b) →
      answer goal l s c ≡ answer goal l s b
  larger-allowance l s b c h f =
      seek-answer l s c ∙ seek-larger l s b c 0 h (rw (← seek-answer l s b) f) ∙ sym (seek-answer l s b)

  -- what an answer says of the numbers of a walk along the list, where b may be visited and n were
  abbrev pub Counts : List (List ℕ) → ℕ → ℕ → Answer → Type 0
  Counts l b n (found p v) = (n < v) × (v ≤ n + b)
  Counts l b n (none_left v) = length l ≤ b
  Counts l b n (spent p v) = b < length l

  counts-more : (p : List ℕ) (l : List (List ℕ)) (b n : ℕ) (a : Answer) → Counts l b (suc n) a → Counts (p ∷ l) (suc b) n a
  counts-more p l b n (found q v) h = (omega arith, omega arith)
  counts-more p l b n (none_left v) h = omega arith
  counts-more p l b n (spent q v) h = omega arith

  pub seek-counts : (l : List (List ℕ)) (s : List ℕ) (b n : ℕ) → Counts l b n (seek goal l s b n)
  unfolding seek
  seek-counts [] s b n = omega arith
  seek-counts (p ∷ l) s zero n = omega arith
  seek-counts (p ∷ l) s (suc b) n = go (goal p) (counts-more p l b n (seek goal l p b (suc n)) (seek-counts l p b (suc n)))
    where
      go : (g : Bool) → Counts (p ∷ l) (suc b) n (seek goal l p b (suc n)) →
          Counts (p ∷ l) (suc b) n (pick g (found p (suc n)) (seek goal l p b (suc n)))
      go true h = (omega arith, omega arith)
      go false h = h
