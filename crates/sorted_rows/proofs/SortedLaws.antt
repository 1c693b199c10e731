-- Laws of lists that are put in one by one and kept ascending.
use Prim.Native.Nat.{ℕ, zero, suc}
use mathlib.Core.Path.{◌≡◌, refl, sym, ap, ap₂, subst, ◌∙◌}
use mathlib.Core.Bool.{Bool, true, false, cond, true≢false}
use mathlib.Core.List.Memᴰ
use mathlib.Core.List.{List, [], ◌∷◌, ◌++◌}
use mathlib.Core.Logic.{◌⊎◌, ◌↔◌, inl, inr, ⊎_elim}
use native.Mathlib.Omega.{arith}
use lib.Dec.{eqb, ltb}
use lib.ListN.{take}
use lib.Seq.{take-take}
use borrow.Author.Tests.{eqb-true, eqb-false, ltb-false}
use Rattle.lists.specs.Lists.{◌∈◌, kept, keep}
use Rattle.lists.specs.Ascending.{less, AllAbove, Ascending}
use Rattle.lists.proofs.MemberLaws.{keep-only, keep-each}
use Rattle.lists.proofs.AscendingLaws.{less-head, less-tail, above_at, at_above, above-trans, ascending-keep, ascending-same}
use Rattle.sorted_rows.specs.Sorted.{insert, sorted}

-- of two lists neither comes before the other: they are equal
pub less-neither : (p q : List ℕ) → less p q ≡ false → less q p ≡ false → p ≡ q
less-neither [] [] h k = refl
less-neither [] (y ∷ q) h k = absurd (true≢false h)
less-neither (x ∷ p) [] h k = absurd (true≢false k)
less-neither (x ∷ p) (y ∷ q) h k = go (eqb x y) refl h (less-neither p q)
  where
    go : (b : Bool) → eqb x y ≡ b → cond b (less p q) (ltb x y) ≡ false →
        (less p q ≡ false → less q p ≡ false → p ≡ q) → x ∷ p ≡ y ∷ q
    go true e h later =
        let same = eqb-true x y e in
        ap₂ (λ (z : ℕ) (r : List ℕ). z ∷ r) same (later h (sym (less-tail y x q p (sym same)) ∙ k))
    go false e h later = absurd (true≢false (sym (less-head y x q p (omega (arith, ltb-false x y h, eqb-false x y e))) ∙ k))

-- one that comes before the first entry is put in front of it
pub insert-front : (o q : List ℕ) (l : List (List ℕ)) → less q o ≡ false → less o q ≡ true → insert o (q ∷ l) ≡ o ∷ q ∷ l
unfolding insert
insert-front o q l h k = rw (h, k) refl

-- one that is the first entry isn't put in again
pub insert-there : (o q : List ℕ) (l : List (List ℕ)) → less q o ≡ false → less o q ≡ false → insert o (q ∷ l) ≡ q ∷ l
unfolding insert
insert-there o q l h k = rw (h, k) refl

-- one that comes after the first entry is put in behind it
pub insert-behind : (o q : List ℕ) (l : List (List ℕ)) → less q o ≡ true → insert o (q ∷ l) ≡ q ∷ insert o l
unfolding insert
insert-behind o q l h = rw h refl

-- what holds of a list with one more, by the three ways in which it is put in
insert-cases : (P : List (List ℕ) → Type 0) (o q : List ℕ) (l : List (List ℕ)) →
    (less q o ≡ true → P (q ∷ insert o l)) → (less o q ≡ true → P (o ∷ q ∷ l)) → (o ≡ q → P (q ∷ l)) → P (insert o (q ∷ l))
insert-cases P o q l behind front there = go (less q o) refl (less o q) refl
  where
    go : (b : Bool) → less q o ≡ b → (c : Bool) → less o q ≡ c → P (insert o (q ∷ l))
    go true h c k = subst P (sym (insert-behind o q l h)) (behind h)
    go false h true k = subst P (sym (insert-front o q l h k)) (front k)
    go false h false k = subst P (sym (insert-there o q l h k)) (there (less-neither o q k h))

-- an entry of a list with one more is that one, or was there
pub insert-only : (o : List ℕ) (l : List (List ℕ)) (x : List ℕ) → x ∈ insert o l → (x ≡ o) ⊎ (x ∈ l)
unfolding insert
insert-only o [] x m = ⊎_elim inl (λ i. absurd (Memᴰ.not-nil i)) (Memᴰ.cases_cons m)
insert-only o (q ∷ l) x m =
    insert-cases (λ r. x ∈ r → (x ≡ o) ⊎ (x ∈ (q ∷ l))) o q l
    (λ _ i.
    ⊎_elim (λ (e : x ≡ q). inr (Memᴰ.head e))
    (λ j. ⊎_elim inl (λ j'. inr (Memᴰ.tail j')) (insert-only o l x j)) (Memᴰ.cases_cons i))
    (λ _ i. ⊎_elim inl inr (Memᴰ.cases_cons i))
    (λ _ i. inr i) m

-- what was there is there still
pub insert-kept : (o : List ℕ) (l : List (List ℕ)) (x : List ℕ) → x ∈ l → x ∈ insert o l
insert-kept o [] x m = absurd (Memᴰ.not-nil m)
insert-kept o (q ∷ l) x m =
    insert-cases (λ r. x ∈ r) o q l
    (λ _. ⊎_elim (λ (e : x ≡ q). Memᴰ.head e) (λ i. Memᴰ.tail (insert-kept o l x i)) (Memᴰ.cases_cons m))
    (λ _. Memᴰ.tail m) (λ _. m)

-- the one that is put in is there
pub insert-has : (o : List ℕ) (l : List (List ℕ)) → o ∈ insert o l
unfolding insert
insert-has o [] = Memᴰ.head refl
insert-has o (q ∷ l) =
    insert-cases (λ r. o ∈ r) o q l (λ _. Memᴰ.tail (insert-has o l)) (λ _. Memᴰ.head refl) (λ e. Memᴰ.head e)

pub insert-member : (o : List ℕ) (l : List (List ℕ)) (x : List ℕ) → x ∈ insert o l ↔ ((x ≡ o) ⊎ (x ∈ l))
insert-member o l x =
    (insert-only o l x, ⊎_elim (λ (e : x ≡ o). Memᴰ.cast e (insert-has o l)) (insert-kept o l x))

-- sorting keeps the entries
pub sorted-member : (l : List (List ℕ)) (x : List ℕ) → x ∈ sorted l ↔ x ∈ l
unfolding sorted
sorted-member [] x = (λ m. m, λ m. m)
sorted-member (o ∷ l) x =
    let here = insert-member o (sorted l) x in
    let rest = sorted-member l x in (
      λ m. ⊎_elim (λ (e : x ≡ o). Memᴰ.head e) (λ i. Memᴰ.tail (rest.0 i)) (here.0 m),
      λ m. here.1 (⊎_elim inl (λ i. inr (rest.1 i)) (Memᴰ.cases_cons m)),
    )

-- a list with one more still ascends
pub insert-ascending : (o : List ℕ) (l : List (List ℕ)) → Ascending l → Ascending (insert o l)
unfolding insert
insert-ascending o [] a = (tt, tt)
insert-ascending o (q ∷ l) a =
    insert-cases Ascending o q l
    (λ h. (at_above q (insert o l) (λ x m. above h x (insert-only o l x m)), insert-ascending o l a.1))
    (λ h. ((h, above-trans o q l h a.0), a)) (λ _. a)
  where
    above : less q o ≡ true → (x : List ℕ) → (x ≡ o) ⊎ (x ∈ l) → less q x ≡ true
    above h x = ⊎_elim (λ (e : x ≡ o). ap (less q) e ∙ h) (λ m. above_at q l a.0 x m)

pub sorted-ascending : (l : List (List ℕ)) → Ascending (sorted l)
unfolding sorted
sorted-ascending [] = tt
sorted-ascending (o ∷ l) = insert-ascending o (sorted l) (sorted-ascending l)

-- the first k of a list that ascends do
above-take : (p : List ℕ) (k : ℕ) (l : List (List ℕ)) → AllAbove p l → AllAbove p (take k l)
above-take p zero l a = tt
above-take p (suc k) [] a = tt
above-take p (suc k) (q ∷ l) a = (a.0, above-take p k l a.1)

pub ascending-take : (k : ℕ) (l : List (List ℕ)) → Ascending l → Ascending (take k l)
ascending-take zero l a = tt
ascending-take (suc k) [] a = tt
ascending-take (suc k) (q ∷ l) a = (above-take q k l a.0, ascending-take k l a.1)

-- the order in which they come and how often doesn't matter
pub sorted-same : (l m : List (List ℕ)) → ((x : List ℕ) → x ∈ l ↔ x ∈ m) → sorted l ≡ sorted m
sorted-same l m h =
    ascending-same (sorted l) (sorted m) (sorted-ascending l) (sorted-ascending m)
    (λ x i. (sorted-member m x).1 ((h x).0 ((sorted-member l x).0 i)))
    (λ x i. (sorted-member l x).1 ((h x).1 ((sorted-member m x).0 i)))

-- one more at the end
pub sorted_more : (l : List (List ℕ)) (o : List ℕ) → sorted (l ++ (o ∷ [])) ≡ insert o (sorted l)
unfolding sorted
sorted_more l o = sorted-same (l ++ (o ∷ [])) (o ∷ l) (λ x. (to x, from x))
  where
    to : (x : List ℕ) → x ∈ (l ++ (o ∷ [])) → x ∈ (o ∷ l)
    to x m =
        ⊎_elim Memᴰ.tail last (Memᴰ.append_cases l m)
      where
        last : x ∈ (o ∷ []) → x ∈ (o ∷ l)
        last i = ⊎_elim (λ (e : x ≡ o). Memᴰ.head e) (λ j. absurd (Memᴰ.not-nil j)) (Memᴰ.cases_cons i)

    from : (x : List ℕ) → x ∈ (o ∷ l) → x ∈ (l ++ (o ∷ []))
    from x m =
        ⊎_elim (λ (e : x ≡ o). Memᴰ.append_right l (Memᴰ.head e)) (λ i. Memᴰ.append_left (o ∷ []) i) (Memᴰ.cases_cons m)

-- the first k of a list with one more are told by the first k of the list
pub insert-take : (o : List ℕ) (k : ℕ) (l : List (List ℕ)) → take k (insert o l) ≡ take k (insert o (take k l))
insert-take o zero l = refl
insert-take o (suc k) [] = refl
insert-take o (suc k) (q ∷ l) = go (less q o) refl (less o q) refl (insert-take o k l)
  where
    go : (b : Bool) → less q o ≡ b → (c : Bool) → less o q ≡ c → take k (insert o l) ≡ take k (insert o (take k l)) →
        take (suc k) (insert o (q ∷ l)) ≡ take (suc k) (insert o (q ∷ take k l))
    go true h c d later = rw (insert-behind o q l h, insert-behind o q (take k l) h) (ap (λ (r : List (List ℕ)). q ∷ r) later)
    go false h true d later =
        rw (insert-front o q l h d, insert-front o q (take k l) h d)
        (ap (λ (r : List (List ℕ)). o ∷ r) (sym (take-take k (suc k) (q ∷ l) (omega arith))))
    go false h false d later =
        rw (insert-there o q l h d, insert-there o q (take k l) h d)
        (ap (λ (r : List (List ℕ)). q ∷ r) (sym (take-take k k l (omega arith))))

-- one more that isn't greater than s: those greater than s stay
pub kept_same : (s o : List ℕ) (l : List (List ℕ)) → less s o ≡ false → keep (less s) (insert o l) ≡ keep (less s) l
unfolding insert
kept_same s o [] h = rw h refl
kept_same s o (q ∷ l) h =
    insert-cases (λ r. keep (less s) r ≡ keep (less s) (q ∷ l)) o q l
    (λ _. ap (kept (less s q) q) (kept_same s o l h)) (λ _. rw h refl) (λ _. refl)

-- one more that is greater than s is one more of those greater than s
pub kept-insert : (s o : List ℕ) (l : List (List ℕ)) → Ascending l → less s o ≡ true →
    keep (less s) (insert o l) ≡ insert o (keep (less s) l)
kept-insert s o l a h =
    ascending-same (keep (less s) (insert o l)) (insert o (keep (less s) l))
    (ascending-keep (less s) (insert o l) (insert-ascending o l a))
    (insert-ascending o (keep (less s) l) (ascending-keep (less s) l a)) to from
  where
    to : (x : List ℕ) → x ∈ keep (less s) (insert o l) → x ∈ insert o (keep (less s) l)
    to x m =
        let r = keep-only (less s) (insert o l) x m in
        (insert-member o (keep (less s) l) x).1
        (⊎_elim inl (λ i. inr (keep-each (less s) l x i r.1)) (insert-only o l x r.0))

    from : (x : List ℕ) → x ∈ insert o (keep (less s) l) → x ∈ keep (less s) (insert o l)
    from x m =
        ⊎_elim (λ (e : x ≡ o). keep-each (less s) (insert o l) x ((insert-member o l x).1 (inl e)) (ap (less s) e ∙ h))
        (λ i. let r = keep-only (less s) l x i in keep-each (less s) (insert o l) x (insert-kept o l x r.0) r.1)
        (insert-only o (keep (less s) l) x m)

-- the first k above s of a list with one more that is above s are told by the first k above s of the list
pub kept_more : (s o : List ℕ) (k : ℕ) (l : List (List ℕ)) → Ascending l → less s o ≡ true →
    take k (keep (less s) (insert o l)) ≡ take k (insert o (take k (keep (less s) l)))
kept_more s o k l a h = ap (take k) (kept-insert s o l a h) ∙ insert-take o k (keep (less s) l)
