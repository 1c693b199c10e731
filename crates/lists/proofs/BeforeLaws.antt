-- Which entry of a list stands before which: where none is there twice, a strict order of the entries.
use Prim.Native.Nat.{ℕ, zero, suc, ◌≤◌, ◌<◌}
use native.Mathlib.Omega.{arith}
use mathlib.Core.Path.{◌≡◌, refl, sym, ap, ◌∙◌}
use mathlib.Core.Bool.{Bool, true, false, cond, not, ◌||◌, false≢true}
use mathlib.Core.List.{List, [], ◌∷◌, ◌++◌}
use lib.ListN.{length, get_or, take, drop}
use lib.Dec.{eqb, leb}
use lib.Seq.{split_at}
use borrow.Author.Tests.{eqb-true, eq-eqb, leb-true, leb-false}
use Rattle.lists.specs.Below.{up_from, below}
use Rattle.lists.specs.Lists.{has, distinct, before}
use Rattle.lists.proofs.BoolLaws.{not-either}
use Rattle.lists.proofs.MemberLaws.{has-later, has_here}
use Rattle.lists.proofs.DistinctLaws.{distinct-first, before-none, from-none}

-- what stands before another is there, and so is the other
pub before-has : (l : List ℕ) (a b : ℕ) → before l a b ≡ true → (has a l ≡ true) × (has b l ≡ true)
before-has [] a b h = absurd (false≢true h)
before-has (x ∷ l) a b h = go (eqb a x) h (before-has l a b)
  where
    go : (c : Bool) → cond c (has b l) (before l a b) ≡ true →
        (before l a b ≡ true → (has a l ≡ true) × (has b l ≡ true)) → ((c || has a l) ≡ true) × ((eqb b x || has b l) ≡ true)
    go true h later = (refl, has-later b x l h)
    go false h later = ((later h).0, has-later b x l (later h).1)

-- nothing stands before itself
pub before_self : (l : List ℕ) (a : ℕ) → distinct l ≡ true → before l a a ≡ false
before_self [] a d = refl
before_self (x ∷ l) a d = go (eqb a x) refl (before_self l a t.1)
  where
    t : (has x l ≡ false) × (distinct l ≡ true)
    t = distinct-first x l d

    go : (c : Bool) → eqb a x ≡ c → before l a a ≡ false → cond c (has a l) (before l a a) ≡ false
    go true e later = rw (eqb-true a x e) t.0
    go false e later = later

pub before-trans : (l : List ℕ) (a b c : ℕ) → distinct l ≡ true → before l a b ≡ true → before l b c ≡ true → before l a c ≡ true
before-trans [] a b c d h k = h
before-trans (x ∷ l) a b c d h k = go (eqb a x) (eqb b x) refl h k (before-trans l a b c t.1)
  where
    t : (has x l ≡ false) × (distinct l ≡ true)
    t = distinct-first x l d

    go : (i j : Bool) → eqb b x ≡ j → cond i (has b l) (before l a b) ≡ true → cond j (has c l) (before l b c) ≡ true →
        (before l a b ≡ true → before l b c ≡ true → before l a c ≡ true) → cond i (has c l) (before l a c) ≡ true
    go true true q h k later = k
    go true false q h k later = (before-has l b c k).1
    go false true q h k later = absurd (not-either (has x l) (rw (eqb-true b x q) at (before-has l a b h).1) t.0)
    go false false q h k later = later h k

-- of two different entries one stands before the other
pub before-turned : (l : List ℕ) (a b : ℕ) → distinct l ≡ true → has a l ≡ true → has b l ≡ true → eqb a b ≡ false →
    before l b a ≡ not (before l a b)
before-turned [] a b d h k n = absurd (false≢true h)
before-turned (x ∷ l) a b d h k n = go (eqb a x) (eqb b x) refl refl h k (λ h k. before-turned l a b t.1 h k n)
  where
    t : (has x l ≡ false) × (distinct l ≡ true)
    t = distinct-first x l d

    go : (i j : Bool) → eqb a x ≡ i → eqb b x ≡ j → (i || has a l) ≡ true → (j || has b l) ≡ true →
        (has a l ≡ true → has b l ≡ true → before l b a ≡ not (before l a b)) →
        cond j (has a l) (before l b a) ≡ not (cond i (has b l) (before l a b))
    go true true p q h k later = absurd (not-either _ (eq-eqb a b (eqb-true a x p ∙ sym (eqb-true b x q))) n)
    go true false p q h k later = rw k (before-none l b a (rw (eqb-true a x p) t.0))
    go false true p q h k later = rw (h, before-none l a b (rw (eqb-true b x q) t.0))
    go false false p q h k later = later h k

-- before an entry stand those that the list has up to it
pub before-from : (p s : List ℕ) (e a : ℕ) → distinct (p ++ (e ∷ s)) ≡ true → before (p ++ (e ∷ s)) a e ≡ has a p
before-from [] s e a d =
    let t = distinct-first e s d in
    elim (eqb a e) as (λ b. cond b (has e s) (before s a e) ≡ false) [ true ↦ t.0 | false ↦ before-none s a e t.0 ]
before-from (x ∷ p) s e a d =
    elim (eqb a x) as (λ b. cond b (has e (p ++ (e ∷ s))) (before (p ++ (e ∷ s)) a e) ≡ (b || has a p))
    [ true ↦ has_here p s e | false ↦ before-from p s e a (distinct-first x (p ++ (e ∷ s)) d).1 ]

pub before-taken : (l : List ℕ) (i a : ℕ) → distinct l ≡ true → i < length l → before l a (get_or l i 0) ≡ has a (take i l)
before-taken l i a d k =
    let e = split_at l i 0 k in
    ap (λ (m : List ℕ). before m a (get_or l i 0)) e
    ∙ before-from (take i l) (drop (suc i) l) (get_or l i 0) a (sym (ap distinct e) ∙ d)

-- the numbers from k on are no less
from-least : (k m x : ℕ) → has x (up_from k m) ≡ true → k ≤ x
from-least k m x h = go (leb k x) refl
  where
    go : (b : Bool) → leb k x ≡ b → k ≤ x
    go true e = leb-true k x e
    go false e = absurd (not-either _ h (from-none x k m (leb-false k x e)))

-- and stand in their order
from-before : (k m x y : ℕ) → before (up_from k m) x y ≡ true → x < y
unfolding up_from
from-before k zero x y h = absurd (false≢true h)
from-before k (suc m) x y h = go (eqb x k) refl h (from-before (suc k) m x y)
  where
    go : (b : Bool) → eqb x k ≡ b → cond b (has y (up_from (suc k) m)) (before (up_from (suc k) m) x y) ≡ true →
        (before (up_from (suc k) m) x y ≡ true → x < y) → x < y
    go true e h later = omega (arith, eqb-true x k e, from-least (suc k) m y h)
    go false e h later = later h

-- so do the numbers below n
pub below-before : (n x y : ℕ) → before (below n) x y ≡ true → x < y
below-before n x y h = from-before 0 n x y h
