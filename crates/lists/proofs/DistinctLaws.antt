-- Lists with no entry twice: parts of such a list, one more entry, counting, and the pigeonhole principle.
use Prim.Native.Nat.{ℕ, zero, suc, ◌+◌, ◌≤◌, ◌<◌}
use native.Mathlib.Omega.{arith}
use mathlib.Core.Path.{◌≡◌, refl, sym, ap, ◌∙◌}
use mathlib.Core.Bool.{Bool, true, false, cond, not, ◌&&◌, ◌||◌, and-false, or-false, true≢false, false≢true, and-eq-true_iff}
use mathlib.Core.List.{List, [], ◌∷◌, ◌++◌}
use lib.ListN.{length}
use lib.Dec.{eqb}
use borrow.Author.Tests.{eqb-true, eq-eqb, ne_eqb, not-true}
use Rattle.lists.specs.Below.{up_from, below}
use Rattle.lists.specs.Lists.{all, kept, keep, has, count, distinct, before}
use Rattle.lists.proofs.BoolLaws.{or_off, eqb_comm}
use Rattle.lists.proofs.ListLaws.{all-has}
use Rattle.lists.proofs.MemberLaws.{has-later, has_all, has_here, has-append, has_kept, has-keep}

-- a list with no entry twice: its first entry is not in the rest, which has none twice
pub distinct-first : (x : ℕ) (l : List ℕ) → distinct (x ∷ l) ≡ true → (has x l ≡ false) × (distinct l ≡ true)
distinct-first x l h = let t = (and-eq-true_iff (not (has x l)) (distinct l)).0 h in (not-true (has x l) t.0, t.1)

-- the first of two lists joined has no entry twice, if both together have none
pub distinct-left : (l m : List ℕ) → distinct (l ++ m) ≡ true → distinct l ≡ true
distinct-left [] m h = refl
distinct-left (x ∷ l) m h =
    let t = distinct-first x (l ++ m) h in
    let n = or_off (has x l) (has x m) (sym (has-append x l m) ∙ t.0) in
    rw n.0 (distinct-left l m t.1)

-- nor does the second have an entry of the first
pub distinct_apart : (l m : List ℕ) (x : ℕ) → distinct (l ++ m) ≡ true → has x l ≡ true → has x m ≡ false
distinct_apart [] m x h k = absurd (false≢true k)
distinct_apart (y ∷ l) m x h k = go (eqb x y) refl k (distinct_apart l m x t.1)
  where
    t : (has y (l ++ m) ≡ false) × (distinct (l ++ m) ≡ true)
    t = distinct-first y (l ++ m) h

    go : (b : Bool) → eqb x y ≡ b → (b || has x l) ≡ true → (has x l ≡ true → has x m ≡ false) → has x m ≡ false
    go true e k later = rw (eqb-true x y e) (or_off (has y l) (has y m) (sym (has-append y l m) ∙ t.0)).1
    go false e k later = later k

-- nothing stands before a number that is not in the list
pub before-none : (l : List ℕ) (a b : ℕ) → has b l ≡ false → before l a b ≡ false
before-none [] a b h = refl
before-none (x ∷ l) a b h =
    let t = or_off (eqb b x) (has b l) h in
    elim (eqb a x) as (λ c. cond c (has b l) (before l a b) ≡ false) [ true ↦ t.1 | false ↦ before-none l a b t.1 ]

-- what stands before b is the same with a list behind that does not have b
pub before-left : (l m : List ℕ) (a b : ℕ) → has b m ≡ false → before (l ++ m) a b ≡ before l a b
before-left [] m a b h = before-none m a b h
before-left (x ∷ l) m a b h = rw (before-left l m a b h, has-append b l m, h, or-false (has b l))

-- behind an entry of different ones stands what comes after it
pub before_at : (p s : List ℕ) (e b : ℕ) → distinct (p ++ (e ∷ s)) ≡ true → before (p ++ (e ∷ s)) e b ≡ has b s
before_at [] s e b h = rw (eq-eqb e e refl)
before_at (x ∷ p) s e b h = rw (ne_eqb e x other) (before_at p s e b t.1)
  where
    t : (has x (p ++ (e ∷ s)) ≡ false) × (distinct (p ++ (e ∷ s)) ≡ true)
    t = distinct-first x (p ++ (e ∷ s)) h

    other : e ≡ x → ⊥
    other q = true≢false (sym (has_here p s e) ∙ ap (λ (y : ℕ). has y (p ++ (e ∷ s))) q ∙ t.0)

-- before the last entry stand all others
pub before_last : (p : List ℕ) (a x : ℕ) → before (p ++ (x ∷ [])) a x ≡ has a p
before_last [] a x = elim (eqb a x) as (λ b. cond b false false ≡ false) [ true ↦ refl | false ↦ refl ]
before_last (y ∷ p) a x =
    elim (eqb a y) as (λ b. cond b (has x (p ++ (x ∷ []))) (before (p ++ (x ∷ [])) a x) ≡ (b || has a p))
    [ true ↦ has_here p [] x | false ↦ before_last p a x ]

-- with one entry more none is there twice, if none is in the list and that entry isn't in it
pub distinct-last : (p : List ℕ) (x : ℕ) → distinct (p ++ (x ∷ [])) ≡ (distinct p && not (has x p))
distinct-last [] x = refl
distinct-last (y ∷ p) x =
    rw (has-append y p (x ∷ []), distinct-last p x, eqb_comm y x) (regroup (has y p) (eqb x y) (distinct p) (has x p))
  where
    regroup : (a b c d : Bool) → (not (a || (b || false)) && (c && not d)) ≡ (not a && c && not (b || d))
    regroup true b c d = refl
    regroup false true c d = sym (and-false c)
    regroup false false c d = refl

-- none of the numbers from k on is less than k
pub from-none : (j k m : ℕ) → j < k → has j (up_from k m) ≡ false
unfolding up_from
from-none j k zero h = refl
from-none j k (suc m) h = rw (ne_eqb j k (λ e. omega arith)) (from-none j (suc k) m (omega arith))

-- of the numbers from k on none is kept twice
from-distinct : (f : ℕ → Bool) (k m : ℕ) → distinct (keep f (up_from k m)) ≡ true
unfolding up_from
from-distinct f k zero = refl
from-distinct f k (suc m) =
    elim (f k) as (λ b. distinct (kept b k (keep f (up_from (suc k) m))) ≡ true) [
      | true ↦ rw (has_kept f (up_from (suc k) m) k, from-none k (suc k) m (omega arith)) (from-distinct f (suc k) m)
      | false ↦ from-distinct f (suc k) m
    ]

-- nor of the numbers below n
pub kept-distinct : (f : ℕ → Bool) (n : ℕ) → distinct (keep f (below n)) ≡ true
kept-distinct f n = from-distinct f 0 n

-- a number in the list is counted
count-has : (x : ℕ) (l : List ℕ) → has x l ≡ true → 1 ≤ count x l
count-has x [] h = absurd (false≢true h)
count-has x (y ∷ l) h = go (eqb x y) h (count-has x l)
  where
    go : (b : Bool) → (b || has x l) ≡ true → (has x l ≡ true → 1 ≤ count x l) → 1 ≤ cond b 1 0 + count x l
    go true h later = omega arith
    go false h later = omega (arith, later h)

-- a number that is not in the list is not counted
count_none : (x : ℕ) (l : List ℕ) → has x l ≡ false → count x l ≡ 0
count_none x [] h = refl
count_none x (y ∷ l) h = go (eqb x y) h (count_none x l)
  where
    go : (b : Bool) → (b || has x l) ≡ false → (has x l ≡ false → count x l ≡ 0) → cond b 1 0 + count x l ≡ 0
    go true h later = absurd (true≢false h)
    go false h later = omega (arith, later h)

-- one that is counted is in the list
pub counted_has : (x : ℕ) (l : List ℕ) → count x l ≡ 1 → has x l ≡ true
counted_has x l h = go (has x l) refl
  where
    go : (b : Bool) → has x l ≡ b → b ≡ true
    go true e = refl
    go false e = absurd (omega (arith, count_none x l e))

-- it is counted once, where none is there twice
pub distinct-once : (x : ℕ) (l : List ℕ) → distinct l ≡ true → has x l ≡ true → count x l ≡ 1
distinct-once x [] d h = absurd (false≢true h)
distinct-once x (y ∷ l) d h = go (eqb x y) refl h (distinct-once x l t.1)
  where
    t : (has y l ≡ false) × (distinct l ≡ true)
    t = distinct-first y l d

    go : (b : Bool) → eqb x y ≡ b → (b || has x l) ≡ true → (has x l ≡ true → count x l ≡ 1) → cond b 1 0 + count x l ≡ 1
    go true e h later = omega (arith, count_none x l (ap (λ (z : ℕ). has z l) (eqb-true x y e) ∙ t.0))
    go false e h later = omega (arith, later h)

-- a list has no entry twice, if each is counted once at most
pub distinct-count : (l : List ℕ) → ((x : ℕ) → has x l ≡ true → count x l ≤ 1) → distinct l ≡ true
distinct-count [] h = refl
distinct-count (x ∷ l) h = go (has x l) refl (distinct-count l rest)
  where
    rest : (y : ℕ) → has y l ≡ true → count y l ≤ 1
    rest y m = omega (arith, h y (has-later y x l m))

    go : (b : Bool) → has x l ≡ b → distinct l ≡ true → (not b && distinct l) ≡ true
    go true e d = absurd (omega (arith, count-has x l e, rw (eq-eqb x x refl) at (h x (rw (eq-eqb x x refl)))))
    go false e d = d

-- what is kept is at most as long as the list
keep-le : (f : ℕ → Bool) (l : List ℕ) → length (keep f l) ≤ length l
keep-le f [] = omega arith
keep-le f (x ∷ l) =
    elim (f x) as (λ b. length (kept b x (keep f l)) ≤ length (x ∷ l))
    [ true ↦ omega (arith, keep-le f l) | false ↦ omega (arith, keep-le f l) ]

-- and shorter, if a number in the list does not pass
keep-shorter : (f : ℕ → Bool) (l : List ℕ) (x : ℕ) → has x l ≡ true → f x ≡ false → length (keep f l) < length l
keep-shorter f [] x h k = absurd (false≢true h)
keep-shorter f (y ∷ l) x h k = go (eqb x y) (f y) refl refl h (λ m. keep-shorter f l x m k)
  where
    go : (b c : Bool) → eqb x y ≡ b → f y ≡ c → (b || has x l) ≡ true → (has x l ≡ true → length (keep f l) < length l) →
        length (kept c y (keep f l)) < length (y ∷ l)
    go true true e d h later = absurd (true≢false (sym d ∙ ap f (sym (eqb-true x y e)) ∙ k))
    go true false e d h later = omega (arith, keep-le f l)
    go false true e d h later = omega (arith, later h)
    go false false e d h later = omega (arith, later h)

-- the pigeonhole principle: a list of entries of l with none twice is at most as long as l
pub pigeonhole : (p l : List ℕ) → distinct p ≡ true → all (λ x. has x l) p ≡ true → length p ≤ length l
pigeonhole [] l d h = omega arith
pigeonhole (x ∷ p) l d h =
    omega (
      arith,
      pigeonhole p (keep other l) t.1 (has_all (λ y. has y (keep other l)) p each),
      keep-shorter other l x a.0 (ap not (eq-eqb x x refl)),
    )
  where
    other : ℕ → Bool
    other y = not (eqb y x)

    t : (has x p ≡ false) × (distinct p ≡ true)
    t = distinct-first x p d

    a : (has x l ≡ true) × (all (λ y. has y l) p ≡ true)
    a = (and-eq-true_iff (has x l) (all (λ y. has y l) p)).0 h

    apart : (y : ℕ) (b : Bool) → eqb y x ≡ b → has y p ≡ true → not b ≡ true
    apart y true e m = absurd (true≢false (sym m ∙ ap (λ (z : ℕ). has z p) (eqb-true y x e) ∙ t.0))
    apart y false e m = refl

    each : (y : ℕ) → has y p ≡ true → has y (keep other l) ≡ true
    each y m = has-keep other l y (all-has (λ z. has z l) p y a.1 m) (apart y (eqb y x) refl m)
