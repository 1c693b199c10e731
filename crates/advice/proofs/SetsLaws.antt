-- The sets by size: every set, and in order.
use Prim.Native.Nat.{ℕ, zero, suc, ◌<◌}
use native.Mathlib.Omega.{arith}
use mathlib.Core.Path.{◌≡◌, refl, sym, ap, ◌∙◌, subst}
use mathlib.Core.Bool.{Bool, true, false, false≢true}
use mathlib.Core.List.Memᴰ
use mathlib.Core.List.{List, [], ◌∷◌, ◌++◌, map}
use mathlib.Core.Logic.{◌⊎◌, inl, inr, ⊎_elim}
use lib.ListN.{length}
use lib.Dec.{eqb, ltb}
use borrow.Author.Tests.{eqb-true, eq-eqb, ltb-true, ltb-false, lt-ltb}
use Rattle.lists.specs.Below.{below, up_from}
use Rattle.lists.specs.Lists.{◌∈◌, all, has, distinct, kept, keep}
use Rattle.lists.specs.Ascending.{less}
use Rattle.lists.proofs.BoolLaws.{and_l, and_r, is_false}
use Rattle.lists.proofs.ListLaws.{all-has}
use Rattle.lists.proofs.MemberLaws.{has-later, has_all, has_first, below-has, keep-only, keep-each}
use Rattle.lists.proofs.DistinctLaws.{pigeonhole, from-none}
use Rattle.lists.proofs.AscendingLaws.{less-head, less-tail}
use Rattle.prefixes.specs.Listed.{joined}
use Rattle.prefixes.specs.Statements.{Rising}
use Rattle.prefixes.proofs.ListedLaws.{joined-only, joined-each}
use Rattle.advice.specs.Sets.{sets, of_size, by_size}
use Rattle.advice.specs.Statements.{IsSet, Earlier, Pairwise, SetsRight}

-- a set of l is one of x ∷ l too
wider : (x : ℕ) (l s : List ℕ) → all (λ y. has y l) s ≡ true → all (λ y. has y (x ∷ l)) s ≡ true
wider x l s h = has_all (λ y. has y (x ∷ l)) s (λ y m. has-later y x l (all-has (λ z. has z l) s y h m))

-- and conversely, if all its entries are greater than x
narrower : (x : ℕ) (l s : List ℕ) → all (ltb x) s ≡ true → all (λ y. has y (x ∷ l)) s ≡ true → all (λ y. has y l) s ≡ true
narrower x l s a h = has_all (λ y. has y l) s each
  where
    each : (y : ℕ) → has y s ≡ true → has y l ≡ true
    each y m =
        let g : x < y = ltb-true x y (all-has (ltb x) s y a m) in
        ⊎_elim (λ (e : y ≡ x). absurd (omega arith)) (λ i. i) (has_first y x l (all-has (λ z. has z (x ∷ l)) s y h m))

-- only sets are there
sets-only : (l s : List ℕ) → Rising l → s ∈ sets l → IsSet l s
unfolding sets
sets-only [] s r m =
    ⊎_elim (λ (e : s ≡ []). subst (IsSet []) (sym e) (tt, refl)) (λ i. absurd (Memᴰ.not-nil i)) (Memᴰ.cases_cons m)
sets-only (x ∷ l) s r m =
    ⊎_elim (λ i. first (Memᴰ.of_map (λ z. x ∷ z) (sets l) i) (λ z. sets-only l z r.1))
    (λ i. let h = sets-only l s r.1 i in (h.0, wider x l s h.1)) (Memᴰ.append_cases (map (λ z. x ∷ z) (sets l)) m)
  where
    first : (z : List ℕ) × (z ∈ sets l) × ((x ∷ z) ≡ s) → ((z : List ℕ) → z ∈ sets l → IsSet l z) → IsSet (x ∷ l) s
    first z only =
        let h = only z.0 z.1 in
        let above = has_all (ltb x) z.0 (λ y m. all-has (ltb x) l y r.0 (all-has (λ w. has w l) z.0 y h.1 m)) in
        subst (IsSet (x ∷ l)) z.2 ((above, h.0), rw (eq-eqb x x refl) (wider x l z.0 h.1))

-- each is there
sets-each : (l s : List ℕ) → Rising l → IsSet l s → s ∈ sets l
unfolding sets
sets-each [] [] r h = Memᴰ.head refl
sets-each [] (y ∷ s) r h = absurd (false≢true h.1)
sets-each (x ∷ l) [] r h = Memᴰ.append_right (map (λ z. x ∷ z) (sets l)) (sets-each l [] r.1 (tt, refl))
sets-each (x ∷ l) (y ∷ s) r h =
    ⊎_elim (λ (e : y ≡ x). here e (sets-each l s r.1)) (λ i. later i (sets-each l (y ∷ s) r.1))
    (has_first y x l (and_l (has y (x ∷ l)) (all (λ z. has z (x ∷ l)) s) h.1))
  where
    inner : all (λ z. has z (x ∷ l)) s ≡ true
    inner = and_r (has y (x ∷ l)) (all (λ z. has z (x ∷ l)) s) h.1

    here : y ≡ x → (IsSet l s → s ∈ sets l) → (y ∷ s) ∈ (map (λ z. x ∷ z) (sets l) ++ sets l)
    here e each =
        subst (λ (z : ℕ). (z ∷ s) ∈ (map (λ q. x ∷ q) (sets l) ++ sets l)) (sym e)
        (Memᴰ.append_left (sets l) (Memᴰ.map (λ q. x ∷ q)
        (each (h.0.1, narrower x l s (subst (λ (z : ℕ). all (ltb z) s ≡ true) e h.0.0) inner))))

    later : has y l ≡ true → (IsSet l (y ∷ s) → (y ∷ s) ∈ sets l) → (y ∷ s) ∈ (map (λ z. x ∷ z) (sets l) ++ sets l)
    later i each =
        let g : x < y = ltb-true x y (all-has (ltb x) l y r.0 i) in
        let above = has_all (ltb x) s (λ z m. lt-ltb x z (omega (arith, g, ltb-true y z (all-has (ltb y) s z h.0.0 m)))) in
        Memᴰ.append_right (map (λ z. x ∷ z) (sets l)) (each (h.0, rw i (narrower x l s above inner)))

-- Pairs of a list that is joined of two, and of what is kept of one.
pairs-append : (R : List ℕ → List ℕ → Type 0) (l m : List (List ℕ)) → Pairwise R l → Pairwise R m →
    ((p q : List ℕ) → p ∈ l → q ∈ m → R p q) → Pairwise R (l ++ m)
pairs-append R [] m a b h = b
pairs-append R (s ∷ l) m a b h = (
  λ q i. ⊎_elim (λ j. a.0 q j) (λ j. h s q (Memᴰ.head refl) j) (Memᴰ.append_cases l i),
  pairs-append R l m a.1 b (λ p q i j. h p q (Memᴰ.tail i) j),
)

pairs-keep : (R S : List ℕ → List ℕ → Type 0) (f : List ℕ → Bool) (l : List (List ℕ)) →
    ((p q : List ℕ) → f p ≡ true → f q ≡ true → R p q → S p q) → Pairwise R l → Pairwise S (keep f l)
pairs-keep R S f [] h a = tt
pairs-keep R S f (s ∷ l) h a = go (f s) refl (pairs-keep R S f l h a.1)
  where
    go : (b : Bool) → f s ≡ b → Pairwise S (keep f l) → Pairwise S (kept b s (keep f l))
    go true e r = (λ q i. let m = keep-only f l q i in h s q e m.1 (a.0 q m.0), r)
    go false e r = r

-- Those of one size ascend:
abbrev Ascends : List ℕ → List ℕ → Type 0
Ascends a b = length a ≡ length b → less a b ≡ true

with_first : (x : ℕ) (l : List (List ℕ)) → Pairwise Ascends l → Pairwise Ascends (map (λ s. x ∷ s) l)
with_first x [] a = tt
with_first x (s ∷ l) a = (
  λ q i e. behind q (Memᴰ.of_map (λ z. x ∷ z) l i) e,
  with_first x l a.1,
)
  where
    behind : (q : List ℕ) → (z : List ℕ) × (z ∈ l) × ((x ∷ z) ≡ q) → suc (length s) ≡ length q → less (x ∷ s) q ≡ true
    behind q z e =
        subst (λ (w : List ℕ). less (x ∷ s) w ≡ true) z.2
        (less-tail x x s z.0 refl ∙ a.0 z.0 z.1 (omega (arith, e, ap length z.2)))

-- one with the first entry is less than one without
sets-ascend : (l : List ℕ) → Rising l → Pairwise Ascends (sets l)
unfolding sets
sets-ascend [] r = (λ q i e. absurd (Memᴰ.not-nil i), tt)
sets-ascend (x ∷ l) r =
    pairs-append Ascends (map (λ s. x ∷ s) (sets l)) (sets l) (with_first x (sets l) (sets-ascend l r.1)) (sets-ascend l r.1)
    (λ p q i j. across p q (Memᴰ.of_map (λ s. x ∷ s) (sets l) i) (sets-only l q r.1 j))
  where
    across : (p q : List ℕ) → (z : List ℕ) × (z ∈ sets l) × ((x ∷ z) ≡ p) → IsSet l q → Ascends p q
    across p [] z h e = absurd (omega (arith, e, ap length z.2))
    across p (y ∷ q) z h e =
        ap (λ (w : List ℕ). less w (y ∷ q)) (sym z.2)
        ∙ less-head x y z.0 q (ltb-true x y (all-has (ltb x) l y r.0 (and_l (has y l) (all (λ w. has w l) q) h.1)))

module _ (l : List ℕ) (r : Rising l) where
  size_is : (k : ℕ) (s : List ℕ) → s ∈ of_size l k → (s ∈ sets l) × (length s ≡ k)
  unfolding of_size
  size_is k s m = let h = keep-only (λ z. eqb (length z) k) (sets l) s m in (h.0, eqb-true (length s) k h.1)

  size-has : (s : List ℕ) → s ∈ sets l → s ∈ of_size l (length s)
  unfolding of_size
  size-has s m = keep-each (λ z. eqb (length z) (length s)) (sets l) s m (eq-eqb (length s) (length s) refl)

  size-order : (k : ℕ) → Pairwise Earlier (of_size l k)
  unfolding of_size
  size-order k =
      pairs-keep Ascends Earlier (λ s. eqb (length s) k) (sets l)
      (λ p q a b h. let e = eqb-true (length p) k a ∙ sym (eqb-true (length q) k b) in inr (e, h e)) (sets-ascend l r)

  sizes-order : (k m : ℕ) → Pairwise Earlier (joined (of_size l) (up_from k m))
  unfolding up_from
  sizes-order k zero = tt
  sizes-order k (suc m) =
      pairs-append Earlier (of_size l k) (joined (of_size l) (up_from (suc k) m)) (size-order k) (sizes-order (suc k) m)
      (λ p q i j. larger p q (size_is k p i).1 (joined-only (of_size l) (up_from (suc k) m) q j))
    where
      larger : (p q : List ℕ) → length p ≡ k → (x : ℕ) × (has x (up_from (suc k) m) ≡ true) × (q ∈ of_size l x) → Earlier p q
      larger p q e x = go (ltb x.0 (suc k)) refl
        where
          go : (b : Bool) → ltb x.0 (suc k) ≡ b → Earlier p q
          go true h = absurd (false≢true (sym (from-none x.0 (suc k) m (ltb-true x.0 (suc k) h)) ∙ x.1))
          go false h = inl (omega (arith, e, ltb-false x.0 (suc k) h, (size_is x.0 q x.2).1))

-- an ascending list has none twice
rising-distinct : (s : List ℕ) → Rising s → distinct s ≡ true
rising-distinct [] r = refl
rising-distinct (x ∷ s) r =
    rw (is_false (has x s) (λ e. omega (arith, ltb-true x x (all-has (ltb x) s x r.0 e)))) (rising-distinct s r.1)

-- of an ascending list: every set, and in order
pub sets-right : (l : List ℕ) → Rising l → SetsRight l
unfolding by_size
sets-right l r = record {
  exactly = λ s. (
    λ m. let x = joined-only (of_size l) (below (suc (length l))) s m in sets-only l s r (size_is l r x.0 s x.2).0,
    each s,
  );
  in_order = sizes-order l r 0 (suc (length l));
}
  where
    each : (s : List ℕ) → IsSet l s → s ∈ joined (of_size l) (below (suc (length l)))
    each s h =
        joined-each (of_size l) (below (suc (length l))) (length s) s
        (below-has (suc (length l)) (length s) (omega (arith, pigeonhole s l (rising-distinct s h.0) h.1)))
        (size-has l r s (sets-each l s r h))
