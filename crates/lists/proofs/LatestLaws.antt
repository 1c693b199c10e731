-- Which entry is the last that passes a test.
use Prim.Native.Nat.{ℕ, suc, ◌≤◌, ◌<◌}
use native.Mathlib.Omega.{arith}
use mathlib.Core.Path.{◌≡◌, refl, sym, ap, ◌∙◌, fun_ext}
use mathlib.Core.Bool.{Bool, true, false, cond, ◌&&◌, ◌||◌, and-true, false≢true}
use mathlib.Core.List.{List, [], ◌∷◌, ◌++◌}
use mathlib.Core.Logic.{◌⊎◌, inl, inr, ⊎_elim}
use lib.ListN.{length, get_or, take, drop}
use lib.Dec.{eqb}
use lib.Seq.{split_at}
use borrow.Author.Tests.{eqb-true, eq-eqb, ltb-true, lt-ltb}
use Rattle.lists.specs.Below.{below}
use Rattle.lists.specs.Lists.{has, distinct, before, last_or}
use Rattle.lists.proofs.BoolLaws.{and_r, not-either}
use Rattle.lists.proofs.MemberLaws.{has-later, has_all, has-below}
use Rattle.lists.proofs.DistinctLaws.{distinct_apart}
use Rattle.lists.proofs.BeforeLaws.{before-has, before-from, below-before}
use Rattle.lists.proofs.LastLaws.{last-append, last-same}

-- it is the default, or an entry that passes
pub last-either : (p : ℕ → Bool) (d : ℕ) (l : List ℕ) →
    (last_or p d l ≡ d) ⊎ ((has (last_or p d l) l ≡ true) × (p (last_or p d l) ≡ true))
last-either p d [] = inl refl
last-either p d (y ∷ l) = go (p y) refl (λ d. last-either p d l)
  where
    go : (b : Bool) → p y ≡ b → ((d : ℕ) → (last_or p d l ≡ d) ⊎ ((has (last_or p d l) l ≡ true) × (p (last_or p d l) ≡ true))) →
        let x = last_or p (cond b y d) l in (x ≡ d) ⊎ ((has x (y ∷ l) ≡ true) × (p x ≡ true))
    go true e later =
        ⊎_elim (λ (q : last_or p y l ≡ y). inr (rw (eq-eqb _ y q), ap p q ∙ e)) (λ r. inr (has-later _ y l r.0, r.1)) (later y)
    go false e later = ⊎_elim inl (λ r. inr (has-later _ y l r.0, r.1)) (later d)

-- any other that passes stands before it
pub last-latest : (p : ℕ → Bool) (d : ℕ) (l : List ℕ) (x : ℕ) → has x l ≡ true → p x ≡ true →
    (x ≡ last_or p d l) ⊎ (before l x (last_or p d l) ≡ true)
last-latest p d [] x h k = absurd (false≢true h)
last-latest p d (y ∷ l) x h k = go (eqb x y) refl h (last-latest p (cond (p y) y d) l x)
  where
    z : ℕ
    z = last_or p (cond (p y) y d) l

    go : (b : Bool) → eqb x y ≡ b → (b || has x l) ≡ true →
        (has x l ≡ true → p x ≡ true → (x ≡ z) ⊎ (before l x z ≡ true)) → (x ≡ z) ⊎ (cond b (has z l) (before l x z) ≡ true)
    go true e h later =
        let first : cond (p y) y d ≡ x = rw (sym (ap p (eqb-true x y e)) ∙ k) (sym (eqb-true x y e)) in
        ⊎_elim (λ (q : z ≡ cond (p y) y d). inl (sym first ∙ sym q)) (λ r. inr r.0) (last-either p (cond (p y) y d) l)
    go false e h later = later h k

-- of the numbers below n it is the highest that passes
pub last-highest : (p : ℕ → Bool) (d n x : ℕ) → x < n → p x ≡ true → (x ≤ last_or p d (below n)) × (last_or p d (below n) < n)
last-highest p d n x l h =
    ⊎_elim (λ (q : x ≡ z). (omega arith, omega arith)) later (last-latest p d (below n) x (has-below n x ∙ lt-ltb x n l) h)
  where
    z : ℕ
    z = last_or p d (below n)

    later : before (below n) x z ≡ true → (x ≤ z) × (z < n)
    later b = (omega (arith, below-before n x z b), ltb-true z n (sym (has-below n z) ∙ (before-has (below n) x z b).1))

-- the last that passes of those before an entry is the last up to it
last-from : (f : ℕ → Bool) (d : ℕ) (p s : List ℕ) (e : ℕ) → distinct (p ++ (e ∷ s)) ≡ true →
    last_or (λ w. f w && before (p ++ (e ∷ s)) w e) d (p ++ (e ∷ s)) ≡ last_or f d p
last-from f d p s e h =
    ap (λ (g : ℕ → Bool). last_or (λ w. f w && g w) d (p ++ (e ∷ s))) (fun_ext (λ w. before-from p s e w h))
    ∙ last-append listed d p (e ∷ s)
    ∙ ⊎_elim (λ (q : z ≡ last_or listed d p). q)
    (λ r. absurd (not-either _ r.0 (distinct_apart p (e ∷ s) z h (and_r (f z) (has z p) r.1))))
    (last-either listed (last_or listed d p) (e ∷ s))
    ∙ last-same (λ w. has w p) listed f d p (has_all (λ w. has w p) p (λ w i. i)) (λ w i. rw i (and-true (f w)))
  where
    listed : ℕ → Bool
    listed w = f w && has w p

    z : ℕ
    z = last_or listed (last_or listed d p) (e ∷ s)

pub last_taken : (f : ℕ → Bool) (d : ℕ) (l : List ℕ) (i : ℕ) → distinct l ≡ true → i < length l →
    last_or (λ w. f w && before l w (get_or l i 0)) d l ≡ last_or f d (take i l)
last_taken f d l i h k =
    let e = split_at l i 0 k in
    ap (λ (m : List ℕ). last_or (λ w. f w && before m w (get_or l i 0)) d m) e
    ∙ last-from f d (take i l) (drop (suc i) l) (get_or l i 0) (sym (ap distinct e) ∙ h)
