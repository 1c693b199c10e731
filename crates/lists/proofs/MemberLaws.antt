-- Which entries a list has: of lists joined, of what is kept, of the numbers below a bound.
use Prim.Native.Nat.{ℕ, zero, suc, ◌+◌, ◌≤◌, ◌<◌}
use native.Mathlib.Nat.{eq-or-lt_of_le}
use native.Mathlib.Omega.{arith}
use mathlib.Core.Path.{◌≡◌, refl, sym, ap, ap₂, ◌∙◌}
use mathlib.Core.Bool.{Bool, true, false, ◌&&◌, ◌||◌, and-false, or-true, or_assoc, false≢true}
use mathlib.Core.List.Memᴰ
use mathlib.Core.List.{List, [], ◌∷◌, ◌++◌}
use mathlib.Core.Logic.{◌⊎◌, inl, inr, ⊎_elim}
use lib.Dec.{eqb, ltb}
use borrow.Author.Tests.{ltb-true, lt-ltb, eqb-true, eq-eqb}
use Rattle.lists.specs.Below.{up_from, below}
use Rattle.lists.specs.Lists.{◌∈◌, all, has, kept, keep}
use Rattle.lists.proofs.BoolLaws.{bool-ext, or_cases}
use Rattle.lists.proofs.ListLaws.{all-has}

-- a number in the rest of a list is in the list
pub has-later : (x y : ℕ) (l : List ℕ) → has x l ≡ true → has x (y ∷ l) ≡ true
has-later x y l h = ap (λ (b : Bool). eqb x y || b) h ∙ or-true (eqb x y)

-- a test that each number in the list passes is passed by every entry
pub has_all : (p : ℕ → Bool) (l : List ℕ) → ((x : ℕ) → has x l ≡ true → p x ≡ true) → all p l ≡ true
has_all p [] h = refl
has_all p (y ∷ l) h = rw (h y (rw (eq-eqb y y refl))) (has_all p l (λ x m. h x (has-later x y l m)))

-- tests that agree on the numbers in the list agree on the list
pub all_same : (f g : ℕ → Bool) (l : List ℕ) → ((x : ℕ) → has x l ≡ true → f x ≡ g x) → all f l ≡ all g l
all_same f g [] h = refl
all_same f g (y ∷ l) h =
    ap₂ (λ (b c : Bool). b && c) (h y (rw (eq-eqb y y refl))) (all_same f g l (λ x m. h x (has-later x y l m)))

-- an entry is in the list
pub has_here : (p s : List ℕ) (e : ℕ) → has e (p ++ (e ∷ s)) ≡ true
has_here [] s e = rw (eq-eqb e e refl)
has_here (x ∷ p) s e = has-later e x (p ++ (e ∷ s)) (has_here p s e)

-- two lists joined have the numbers of both
pub has-append : (x : ℕ) (l m : List ℕ) → has x (l ++ m) ≡ (has x l || has x m)
has-append x [] m = refl
has-append x (y ∷ l) m = ap (λ (b : Bool). eqb x y || b) (has-append x l m) ∙ sym (or_assoc (eqb x y) (has x l) (has x m))

-- a number of the first list is in the two lists joined
pub has_left : (x : ℕ) (l m : List ℕ) → has x l ≡ true → has x (l ++ m) ≡ true
has_left x l m h = has-append x l m ∙ ap (λ (b : Bool). b || has x m) h

-- a number of a list with one more entry in front, or behind, is that entry or was there
pub has_first : (x e : ℕ) (l : List ℕ) → has x (e ∷ l) ≡ true → (x ≡ e) ⊎ (has x l ≡ true)
has_first x e l h = ⊎_elim (λ q. inl (eqb-true x e q)) inr (or_cases (eqb x e) (has x l) h)

pub has_last : (x e : ℕ) (l : List ℕ) → has x (l ++ (e ∷ [])) ≡ true → (has x l ≡ true) ⊎ (x ≡ e)
has_last x e l h =
    ⊎_elim inl (λ q. ⊎_elim inr (λ r. absurd (false≢true r)) (has_first x e [] q))
    (or_cases (has x l) (has x (e ∷ [])) (sym (has-append x l (e ∷ [])) ∙ h))

-- a number is kept if it is there and passes
pub has_kept : (f : ℕ → Bool) (l : List ℕ) (k : ℕ) → has k (keep f l) ≡ (has k l && f k)
has_kept f [] k = refl
has_kept f (x ∷ l) k = go (eqb k x) refl (f x) refl (has_kept f l k)
  where
    go : (b : Bool) → eqb k x ≡ b → (v : Bool) → f x ≡ v → has k (keep f l) ≡ (has k l && f k) →
        has k (kept v x (keep f l)) ≡ ((b || has k l) && f k)
    go true e true p later = rw (e, ap f (eqb-true k x e) ∙ p)
    go true e false p later = let q : f k ≡ false = ap f (eqb-true k x e) ∙ p in later ∙ rw (q) (and-false (has k l))
    go false e true p later = rw e later
    go false e false p later = later

-- a number in the list that passes is kept
pub has-keep : (f : ℕ → Bool) (l : List ℕ) (x : ℕ) → has x l ≡ true → f x ≡ true → has x (keep f l) ≡ true
has-keep f l x h k = has_kept f l x ∙ rw (h, k)

-- the numbers from k on have each below k + m
from-has : (k m x : ℕ) → k ≤ x → x < k + m → has x (up_from k m) ≡ true
unfolding up_from
from-has k zero x h l = absurd (omega arith)
from-has k (suc m) x h l =
    ⊎_elim (λ (e : k ≡ x). rw (eq-eqb x k (sym e)))
    (λ n. has-later x k (up_from (suc k) m) (from-has (suc k) m x n (omega arith))) (eq-or-lt_of_le h)

-- the numbers below n have each
pub below-has : (n x : ℕ) → x < n → has x (below n) ≡ true
below-has n x h = from-has 0 n x (omega arith) (omega arith)

-- the numbers from a on are below n
pub all_from : (n a m : ℕ) → a + m ≤ n → all (λ e. ltb e n) (up_from a m) ≡ true
unfolding up_from
all_from n a zero h = refl
all_from n a (suc m) h = rw (lt-ltb a n (omega arith)) (all_from n (suc a) m (omega arith))

-- the numbers below n are those less than n
pub has-below : (n k : ℕ) → has k (below n) ≡ ltb k n
has-below n k =
    bool-ext (has k (below n)) (ltb k n)
    (all-has (λ e. ltb e n) (below n) k (all_from n 0 n (omega arith)))
    (λ h. below-has n k (ltb-true k n h))

-- the numbers kept of those below n are those less than n that pass
pub kept-has : (f : ℕ → Bool) (n x : ℕ) → has x (keep f (below n)) ≡ (ltb x n && f x)
kept-has f n x = has_kept f (below n) x ∙ ap (λ (b : Bool). b && f x) (has-below n x)

module _ {A : Type 0} (f : A → Bool) where
  -- an entry kept is an entry of the list that passes
  pub keep-only : (l : List A) (x : A) → x ∈ keep f l → (x ∈ l) × (f x ≡ true)
  keep-only [] x m = absurd (Memᴰ.not-nil m)
  keep-only (y ∷ l) x m = go (f y) refl m (keep-only l x)
    where
      go : (b : Bool) → f y ≡ b → x ∈ kept b y (keep f l) → (x ∈ keep f l → (x ∈ l) × (f x ≡ true)) → (x ∈ (y ∷ l)) × (f x ≡ true)
      go true e m later =
          ⊎_elim (λ (d : x ≡ y). (Memᴰ.head d, ap f d ∙ e)) (λ i. let r = later i in (Memᴰ.tail r.0, r.1))
          (Memᴰ.cases_cons m)
      go false e m later = let r = later m in (Memᴰ.tail r.0, r.1)

  -- an entry of the list that passes is kept
  pub keep-each : (l : List A) (x : A) → x ∈ l → f x ≡ true → x ∈ keep f l
  keep-each [] x m h = m
  keep-each (y ∷ l) x m h = go (f y) refl (λ i. keep-each l x i h)
    where
      go : (b : Bool) → f y ≡ b → (x ∈ l → x ∈ keep f l) → x ∈ kept b y (keep f l)
      go true e later = ⊎_elim (λ (d : x ≡ y). Memᴰ.head d) (λ i. Memᴰ.tail (later i)) (Memᴰ.cases_cons m)
      go false e later = ⊎_elim (λ (d : x ≡ y). absurd (false≢true (sym e ∙ ap f (sym d) ∙ h))) later (Memᴰ.cases_cons m)
