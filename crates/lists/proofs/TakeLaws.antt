-- Laws for a loop that goes through a list: what holds of the entries passed, and of all.
use Prim.Native.Nat.{ℕ, zero, suc, ◌+◌, ◌≤◌, ◌<◌}
use mathlib.Core.Path.{◌≡◌, refl, ap, ◌∙◌}
use mathlib.Core.Bool.{Bool, true, false, cond, ◌&&◌, ◌||◌, not, true≢false}
use mathlib.Core.List.{List, [], ◌∷◌, ◌++◌}
use native.Mathlib.Omega.{arith}
use native.Mathlib.Numerals.{add-one}
use lib.ListN.{length, get_or, take}
use lib.Seq.{take-suc}
use borrow.Author.Tests.{not-true}
use lib.Dec.{eqb}
use Rattle.lists.specs.Below.{some, every, up_from, below}
use Rattle.lists.specs.Lists.{all, kept, keep, count}
use Rattle.lists.proofs.BoolLaws.{bool-ext}
use Rattle.lists.proofs.SomeLaws.{some-none, some_same, none-at, every-at, at_every}
use Rattle.lists.proofs.ListLaws.{all-has, all_get_d, all-last}
use Rattle.lists.proofs.MemberLaws.{has-keep, below-has}

-- counting goes on past a list
count-append : (e : ℕ) (l m : List ℕ) → count e (l ++ m) ≡ count e l + count e m
count-append e [] m = omega arith
count-append e (x ∷ l) m = omega (arith, count-append e l m)

-- one more entry is counted
pub count-more : (e : ℕ) (l : List ℕ) (i : ℕ) → i < length l → count e (take (i + 1) l) ≡ count e (take i l) + cond (eqb e (get_or l i 0)) 1 0
count-more e l i h = rw (add-one i, take-suc l i 0 h) (count-append e (take i l) (get_or l i 0 ∷ []) ∙ omega arith)

-- one more entry passes
pub all_more : (p : ℕ → Bool) (l : List ℕ) (i : ℕ) → i < length l → all p (take i l) ≡ true → p (get_or l i 0) ≡ true → all p (take (i + 1) l) ≡ true
all_more p l i h a e = rw (add-one i, take-suc l i 0 h, all-last p (take i l) (get_or l i 0), a) e

-- an entry fails
pub all-fails : (p : ℕ → Bool) (l : List ℕ) (i : ℕ) → i < length l → p (get_or l i 0) ≡ false → all p l ≡ false
all-fails p [] i h e = absurd (omega arith)
all-fails p (x ∷ l) zero h e = rw e refl
all-fails p (x ∷ l) (suc i) h e =
    elim (p x) as (λ b. (b && all p l) ≡ false) [ true ↦ all-fails p l i (omega arith) e | false ↦ refl ]

-- each entry passes
all-at : (p : ℕ → Bool) (l : List ℕ) → ((i : ℕ) → i < length l → p (get_or l i 0) ≡ true) → all p l ≡ true
all-at p [] h = refl
all-at p (x ∷ l) h = rw (h 0 (omega arith)) (all-at p l (λ i k. h (suc i) (omega arith)))

-- every entry, by its place
pub all-every : (p : ℕ → Bool) (l : List ℕ) → all p l ≡ every (length l) (λ i. p (get_or l i 0))
all-every p l =
    bool-ext (all p l) (every (length l) (λ i. p (get_or l i 0)))
    (λ h. at_every (length l) (λ i. p (get_or l i 0)) (λ i k. all_get_d p l i h k))
    (λ h. all-at p l (λ i k. every-at (length l) (λ i. p (get_or l i 0)) i h k))

-- of the numbers from k on, none that is kept fails
from-kept : (p f : ℕ → Bool) (k m : ℕ) → ((j : ℕ) → k ≤ j → j < k + m → (f j && not (p j)) ≡ false) → all p (keep f (up_from k m)) ≡ true
unfolding up_from
from-kept p f k zero h = refl
from-kept p f k (suc m) h = go (f k) (p k) (h k (omega arith) (omega arith)) (from-kept p f (suc k) m (λ j l b. h j (omega arith) (omega arith))) refl
  where
    go : (b c : Bool) → (b && not c) ≡ false → all p (keep f (up_from (suc k) m)) ≡ true → p k ≡ c → all p (kept b k (keep f (up_from (suc k) m))) ≡ true
    go true true e r q = rw q r
    go true false e r q = absurd (true≢false e)
    go false c e r q = r

-- every number kept passes: none that is kept fails
pub all-kept : (p f : ℕ → Bool) (n : ℕ) → all p (keep f (below n)) ≡ not (some n (λ k. f k && not (p k)))
all-kept p f n = bool-ext (all p (keep f (below n))) (not (some n (λ k. f k && not (p k)))) none every
  where
    none : all p (keep f (below n)) ≡ true → not (some n (λ k. f k && not (p k))) ≡ true
    none h = ap not (some-none n (λ k. f k && not (p k)) (λ k l. off k l (f k) refl))
      where
        off : (k : ℕ) → k < n → (b : Bool) → f k ≡ b → (f k && not (p k)) ≡ false
        off k l true e = rw (e, all-has p (keep f (below n)) k h (has-keep f (below n) k (below-has n k l) e)) refl
        off k l false e = rw e refl

    every : not (some n (λ k. f k && not (p k))) ≡ true → all p (keep f (below n)) ≡ true
    every h = from-kept p f 0 n (λ k l b. none-at n (λ j. f j && not (p j)) k (not-true (some n (λ j. f j && not (p j))) h) (omega arith))

-- the same, of a test below the bound
pub kept-every : (f : ℕ → Bool) (n : ℕ) (p : ℕ → Bool) → all p (keep f (below n)) ≡ every n (λ k. not (f k) || p k)
kept-every f n p =
    all-kept p f n ∙ ap not (some_same n (λ k. f k && not (p k)) (λ k. not (not (f k) || p k)) (λ k l. both (f k) (p k)))
  where
    both : (a b : Bool) → (a && not b) ≡ not (not a || b)
    both true b = refl
    both false b = refl
