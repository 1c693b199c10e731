-- Laws of the tests and parts of lists, and of membership.
use Prim.Native.Nat.{ℕ, zero, suc, ◌<◌}
use mathlib.Core.Path.{◌≡◌, refl, sym, ap, ◌∙◌}
use mathlib.Core.Bool.{Bool, true, false, ◌&&◌, ◌||◌, false≢true, and-true, and_assoc, and-eq-true_iff}
use mathlib.Core.List.{List, [], ◌∷◌, ◌++◌, cons-ne-nil, head-eq_of_cons-eq}
use native.Mathlib.Omega.{arith}
use lib.Dec.{eqb}
use lib.ListN.{length, get_or}
use borrow.Author.Tests.{eqb-true}
use Rattle.lists.specs.Lists.{all, has, kept, keep}

-- a test that every entry passes is passed by every entry kept
pub all_keep : {A : Type 0} (p f : A → Bool) (l : List A) → all p l ≡ true → all p (keep f l) ≡ true
all_keep p f [] h = refl
all_keep p f (x ∷ l) h =
    let t = (and-eq-true_iff (p x) (all p l)).0 h in
    elim (f x) as (λ b. all p (kept b x (keep f l)) ≡ true)
    [ true ↦ rw t.0 (all_keep p f l t.1) | false ↦ all_keep p f l t.1 ]

-- a test that every entry passes is passed by each number in the list
pub all-has : (p : ℕ → Bool) (l : List ℕ) (x : ℕ) → all p l ≡ true → has x l ≡ true → p x ≡ true
all-has p [] x h k = absurd (false≢true k)
all-has p (y ∷ l) x h k = go (eqb x y) refl k (all-has p l x t.1)
  where
    t : (p y ≡ true) × (all p l ≡ true)
    t = (and-eq-true_iff (p y) (all p l)).0 h

    go : (b : Bool) → eqb x y ≡ b → (b || has x l) ≡ true → (has x l ≡ true → p x ≡ true) → p x ≡ true
    go true e k later = ap p (eqb-true x y e) ∙ t.0
    go false e k later = later k

-- a test that every entry passes is passed by the entry at j
pub all_get_d : (p : ℕ → Bool) (l : List ℕ) (j : ℕ) → all p l ≡ true → j < length l → p (get_or l j 0) ≡ true
all_get_d p [] j a h = absurd (omega arith)
all_get_d p (x ∷ l) zero a h = ((and-eq-true_iff (p x) (all p l)).0 a).0
all_get_d p (x ∷ l) (suc j) a h = all_get_d p l j ((and-eq-true_iff (p x) (all p l)).0 a).1 (omega arith)

-- every one of a list with one entry more passes: those of the list, and the entry
pub all-last : {A : Type 0} (p : A → Bool) (l : List A) (x : A) → all p (l ++ (x ∷ [])) ≡ (all p l && p x)
all-last p [] x = and-true (p x)
all-last p (y ∷ l) x = ap (λ (b : Bool). p y && b) (all-last p l x) ∙ sym (and_assoc (p y) (all p l) (p x))

-- what is kept of two lists joined is what is kept of each, joined
pub keep_append : {A : Type 0} (f : A → Bool) (l m : List A) → keep f (l ++ m) ≡ keep f l ++ keep f m
keep_append f [] m = refl
keep_append {A} f (x ∷ l) m =
    elim (f x) as (λ b. kept b x (keep f (l ++ m)) ≡ kept b x (keep f l) ++ keep f m)
    [ true ↦ ap (λ (k : List A). x ∷ k) (keep_append f l m) | false ↦ keep_append f l m ]

-- the first entry kept passes
pub keep-first : {A : Type 0} (f : A → Bool) (l : List A) (x : A) (m : List A) → keep f l ≡ x ∷ m → f x ≡ true
keep-first f [] x m e = absurd (cons-ne-nil x m (sym e))
keep-first f (y ∷ l) x m e = go (f y) refl e (keep-first f l x m)
  where
    go : (b : Bool) → f y ≡ b → kept b y (keep f l) ≡ x ∷ m → (keep f l ≡ x ∷ m → f x ≡ true) → f x ≡ true
    go true d e later = sym (ap f (head-eq_of_cons-eq e)) ∙ d
    go false d e later = later e
