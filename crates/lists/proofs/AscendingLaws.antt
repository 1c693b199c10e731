-- Laws of the order of lists of numbers, and of ascending lists.
use Prim.Native.Nat.{ℕ, ◌<◌}
use native.Mathlib.Omega.{arith}
use mathlib.Core.Path.{◌≡◌, refl, sym, ap, ap₂, ◌∙◌}
use mathlib.Core.Bool.{Bool, true, false, cond, not, true≢false, false≢true}
use mathlib.Core.List.{List, [], ◌∷◌, ◌++◌, cons-ne-nil, head-eq_of_cons-eq, tail-eq_of_cons-eq}
use mathlib.Core.List.Memᴰ
use mathlib.Core.Logic.{◌⊎◌, inl, inr, ⊎_elim}
use lib.Dec.{eqb, ltb}
use borrow.Author.Tests.{ltb-true, lt-ltb, eqb-true, eq-eqb, ne_eqb}
use Rattle.lists.specs.Lists.{◌∈◌, kept, keep}
use Rattle.lists.specs.Ascending.{less, AllAbove, Ascending}
use Rattle.lists.proofs.ListLaws.{keep-first}

-- a list with a smaller first entry comes first
pub less-head : (x y : ℕ) (p q : List ℕ) → x < y → less (x ∷ p) (y ∷ q) ≡ true
less-head x y p q h = rw (ne_eqb x y (omega arith)) (lt-ltb x y h)

-- after equal first entries the rest decides
pub less-tail : (x y : ℕ) (p q : List ℕ) → x ≡ y → less (x ∷ p) (y ∷ q) ≡ less p q
less-tail x y p q e = rw (eq-eqb x y e)

-- a nonempty list comes before another by a smaller first entry, or by the rest after equal ones
pub less-cases : (x y : ℕ) (p q : List ℕ) → less (x ∷ p) (y ∷ q) ≡ true → (x < y) ⊎ ((x ≡ y) × (less p q ≡ true))
less-cases x y p q h = go (eqb x y) refl h
  where
    go : (b : Bool) → eqb x y ≡ b → cond b (less p q) (ltb x y) ≡ true → (x < y) ⊎ ((x ≡ y) × (less p q ≡ true))
    go true e h = inr (eqb-true x y e, h)
    go false e h = inl (ltb-true x y h)

-- no list comes before itself
pub less-irrefl : (p : List ℕ) → less p p ≡ false
less-irrefl [] = refl
less-irrefl (x ∷ p) = less-tail x x p p refl ∙ less-irrefl p

-- the order is transitive
pub less-trans : (p q r : List ℕ) → less p q ≡ true → less q r ≡ true → less p r ≡ true
less-trans [] [] r h k = absurd (false≢true h)
less-trans [] (y ∷ q) [] h k = absurd (false≢true k)
less-trans [] (y ∷ q) (z ∷ r) h k = refl
less-trans (x ∷ p) [] r h k = absurd (false≢true h)
less-trans (x ∷ p) (y ∷ q) [] h k = absurd (false≢true k)
less-trans (x ∷ p) (y ∷ q) (z ∷ r) h k = go (less-cases x y p q h) (less-cases y z q r k) (less-trans p q r)
  where
    go : (x < y) ⊎ ((x ≡ y) × (less p q ≡ true)) → (y < z) ⊎ ((y ≡ z) × (less q r ≡ true)) →
        (less p q ≡ true → less q r ≡ true → less p r ≡ true) → less (x ∷ p) (z ∷ r) ≡ true
    go (inl a) (inl b) t = less-head x z p r (omega arith)
    go (inl a) (inr b) t = less-head x z p r (omega arith)
    go (inr a) (inl b) t = less-head x z p r (omega arith)
    go (inr a) (inr b) t = less-tail x z p r (a.0 ∙ b.0) ∙ t a.1 b.1

-- a list that is not greater than s is not greater than one that is
pub less-not : (s p q : List ℕ) → less s q ≡ false → less s p ≡ true → less p q ≡ false
less-not s p q h k = go (less p q) refl
  where
    go : (b : Bool) → less p q ≡ b → b ≡ false
    go true e = sym (less-trans s p q k e) ∙ h
    go false e = refl

-- of two lists at most one comes before the other
pub less-asym : (p q : List ℕ) → less p q ≡ true → less q p ≡ false
less-asym p q h = less-not p q p (less-irrefl p) h

-- a common beginning does not matter
pub less-append : (p a b : List ℕ) → less (p ++ a) (p ++ b) ≡ less a b
less-append [] a b = refl
less-append (x ∷ p) a b = less-tail x x (p ++ a) (p ++ b) refl ∙ less-append p a b

-- a list comes before each longer one that begins with it
pub less-extended : (p : List ℕ) (x : ℕ) (r : List ℕ) → less p (p ++ (x ∷ r)) ≡ true
less-extended [] x r = refl
less-extended (y ∷ p) x r = less-tail y y p (p ++ (x ∷ r)) refl ∙ less-extended p x r

-- each entry of a list above p is greater than p
pub above_at : (p : List ℕ) (l : List (List ℕ)) → AllAbove p l → (q : List ℕ) → q ∈ l → less p q ≡ true
above_at p [] h q m = absurd (Memᴰ.not-nil m)
above_at p (x ∷ l) h q m =
    ⊎_elim (λ (e : q ≡ x). ap (less p) e ∙ h.0) (λ m'. above_at p l h.1 q m') (Memᴰ.cases_cons m)

-- a list whose entries are greater than p is above p
pub at_above : (p : List ℕ) (l : List (List ℕ)) → ((q : List ℕ) → q ∈ l → less p q ≡ true) → AllAbove p l
at_above p [] h = tt
at_above p (x ∷ l) h = (h x (Memᴰ.head refl), at_above p l (λ q m. h q (Memᴰ.tail m)))

-- what is above a greater list is above a smaller one
pub above-trans : (p q : List ℕ) (l : List (List ℕ)) → less p q ≡ true → AllAbove q l → AllAbove p l
above-trans p q l h a = at_above p l (λ r m. less-trans p q r h (above_at q l a r m))

-- what is kept of a list above p is above p
pub above-keep : (f : List ℕ → Bool) (p : List ℕ) (l : List (List ℕ)) → AllAbove p l → AllAbove p (keep f l)
above-keep f p [] h = tt
above-keep f p (q ∷ l) h =
    elim (f q) as (λ b. AllAbove p (kept b q (keep f l)))
    [ true ↦ (h.0, above-keep f p l h.1) | false ↦ above-keep f p l h.1 ]

-- what is kept of an ascending list ascends
pub ascending-keep : (f : List ℕ → Bool) (l : List (List ℕ)) → Ascending l → Ascending (keep f l)
ascending-keep f [] h = tt
ascending-keep f (p ∷ l) h =
    elim (f p) as (λ b. Ascending (kept b p (keep f l)))
    [ true ↦ (above-keep f p l h.0, ascending-keep f l h.1) | false ↦ ascending-keep f l h.1 ]

-- two ascending lists joined ascend, if each entry of the first comes before each of the second
pub ascending-append : (l m : List (List ℕ)) → Ascending l → Ascending m →
    ((p q : List ℕ) → p ∈ l → q ∈ m → less p q ≡ true) → Ascending (l ++ m)
ascending-append [] m a b h = b
ascending-append (p ∷ l) m a b h = (at_above p (l ++ m) above, ascending-append l m a.1 b (λ q r i j. h q r (Memᴰ.tail i) j))
  where
    above : (q : List ℕ) → q ∈ (l ++ m) → less p q ≡ true
    above q i = ⊎_elim (λ j. above_at p l a.0 q j) (λ j. h p q (Memᴰ.head refl) j) (Memᴰ.append_cases l i)

-- of a list above s all is greater than s
pub after-above : (s : List ℕ) (l : List (List ℕ)) → AllAbove s l → keep (less s) l ≡ l
after-above s [] h = refl
after-above s (p ∷ l) h = rw h.0 (ap (λ (m : List (List ℕ)). p ∷ m) (after-above s l h.1))

-- of a list above s nothing is at most s
pub upto-above : (s : List ℕ) (l : List (List ℕ)) → AllAbove s l → keep (λ p. not (less s p)) l ≡ []
upto-above s [] h = refl
upto-above s (p ∷ l) h = rw h.0 (upto-above s l h.1)

-- an ascending list is its entries that are at most s, then those greater than s
pub ascending-split : (s : List ℕ) (l : List (List ℕ)) → Ascending l → keep (λ p. not (less s p)) l ++ keep (less s) l ≡ l
ascending-split s [] h = refl
ascending-split s (p ∷ l) h = go (less s p) refl (ascending-split s l h.1)
  where
    go : (b : Bool) → less s p ≡ b → keep (λ q. not (less s q)) l ++ keep (less s) l ≡ l →
        kept (not b) p (keep (λ q. not (less s q)) l) ++ kept b p (keep (less s) l) ≡ p ∷ l
    go true e t = let a = above-trans s p l e h.0 in rw (upto-above s l a, after-above s l a)
    go false e t = ap (λ (m : List (List ℕ)). p ∷ m) t

-- of an ascending list's entries greater than s, those behind the first, p, are the entries greater than p
pub after_next : (s p : List ℕ) (l m : List (List ℕ)) → Ascending l → keep (less s) l ≡ p ∷ m → keep (less p) l ≡ m
after_next s p [] m h e = absurd (cons-ne-nil p m (sym e))
after_next s p (q ∷ l) m h e = go (less s q) refl e (after_next s p l m h.1)
  where
    after_first : keep (less q) (q ∷ l) ≡ l
    after_first = rw (less-irrefl q) (after-above q l h.0)

    go : (b : Bool) → less s q ≡ b → kept b q (keep (less s) l) ≡ p ∷ m → (keep (less s) l ≡ p ∷ m → keep (less p) l ≡ m) →
        keep (less p) (q ∷ l) ≡ m
    go true d e t =
        ap (λ (x : List ℕ). keep (less x) (q ∷ l)) (sym (head-eq_of_cons-eq e)) ∙ after_first ∙
        sym (after-above s l (above-trans s q l d h.0)) ∙ tail-eq_of_cons-eq e
    go false d e t = rw (less-not s p q d (keep-first (less s) l p m e)) (t e)

-- ascending lists with the same entries have the same first entry
first-same : (p q : List ℕ) (l m : List (List ℕ)) → AllAbove p l → AllAbove q m → p ∈ (q ∷ m) → q ∈ (p ∷ l) → p ≡ q
first-same p q l m a b i j = go (Memᴰ.cases_cons i) (Memᴰ.cases_cons j)
  where
    go : (p ≡ q) ⊎ (p ∈ m) → (q ≡ p) ⊎ (q ∈ l) → p ≡ q
    go (inl e) j' = e
    go (inr i') (inl e) = sym e
    go (inr i') (inr j') = absurd (true≢false (sym (above_at q m b p i') ∙ less-asym p q (above_at p l a q j')))

-- an entry greater than p of a list that starts with p is an entry of the rest
rest_has : (p q x : List ℕ) (m : List (List ℕ)) → p ≡ q → less p x ≡ true → x ∈ (q ∷ m) → x ∈ m
rest_has p q x m e h i = ⊎_elim same (λ j. j) (Memᴰ.cases_cons i)
  where
    same : x ≡ q → x ∈ m
    same f = absurd (true≢false (sym h ∙ ap (less p) (f ∙ sym e) ∙ less-irrefl p))

-- ascending lists with the same entries are equal
pub ascending-same : (l m : List (List ℕ)) → Ascending l → Ascending m →
    ((q : List ℕ) → q ∈ l → q ∈ m) → ((q : List ℕ) → q ∈ m → q ∈ l) → l ≡ m
ascending-same [] [] a b h k = refl
ascending-same [] (q ∷ m) a b h k = absurd (Memᴰ.not-nil (k q (Memᴰ.head refl)))
ascending-same (p ∷ l) [] a b h k = absurd (Memᴰ.not-nil (h p (Memᴰ.head refl)))
ascending-same (p ∷ l) (q ∷ m) a b h k =
    ap₂ (λ (x : List ℕ) (r : List (List ℕ)). x ∷ r) first
    (ascending-same l m a.1 b.1
    (λ x i. rest_has p q x m first (above_at p l a.0 x i) (h x (Memᴰ.tail i)))
    (λ x i. rest_has q p x l (sym first) (above_at q m b.0 x i) (k x (Memᴰ.tail i))))
  where
    first : p ≡ q
    first = first-same p q l m a.0 b.0 (h p (Memᴰ.head refl)) (k q (Memᴰ.head refl))
