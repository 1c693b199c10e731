-- The list of prefixes has each that passes, no other, and ascends.
use Prim.Native.Nat.{ℕ, zero, suc, ◌≤◌, ◌<◌}
use native.Mathlib.Omega.{arith}
use mathlib.Core.Path.{◌≡◌, refl, sym, ap, ap₂, ◌∙◌, subst}
use mathlib.Core.Bool.{Bool, true, false, ◌||◌, or-true, false≢true, and-eq-true_iff}
use mathlib.Core.List.{List, [], ◌∷◌, ◌++◌, append-nil, append_assoc, cons-ne-nil}
use mathlib.Core.List.Memᴰ
use mathlib.Core.Logic.{◌⊎◌, ◌≢◌, ⊎_elim}
use lib.ListN.{length}
use lib.Dec.{eqb, ltb}
use borrow.Author.Tests.{ltb-true, lt-ltb, eqb-true, eq-eqb}
use Rattle.lists.specs.Below.{up_from, below}
use Rattle.lists.specs.Lists.{◌∈◌, all, has, kept, keep}
use Rattle.lists.specs.Ascending.{less, AllAbove, Ascending}
use Rattle.lists.proofs.ListLaws.{all_keep, all-has}
use Rattle.lists.proofs.AscendingLaws.{less-head, less-append, less-extended, at_above, ascending-append}
use Rattle.prefixes.specs.Listed.{joined, branch, extensions, listed}
use Rattle.prefixes.specs.Statements.{PrefixClosed, Rising}

-- the numbers from k on are greater than each number below k
all_above : (j k m : ℕ) → j < k → all (ltb j) (up_from k m) ≡ true
unfolding up_from
all_above j k zero h = refl
all_above j k (suc m) h = rw (lt-ltb j k h) (all_above j (suc k) m (omega arith))

-- what is kept of the numbers from k on rises
rising-from : (f : ℕ → Bool) (k m : ℕ) → Rising (keep f (up_from k m))
unfolding up_from
rising-from f k zero = tt
rising-from f k (suc m) =
    elim (f k) as (λ b. Rising (kept b k (keep f (up_from (suc k) m)))) [
      | true ↦ (all_keep (ltb k) f (up_from (suc k) m) (all_above k (suc k) m (omega arith)), rising-from f (suc k) m)
      | false ↦ rising-from f (suc k) m
    ]

-- what is kept of the numbers below n rises
pub rising-keep : (f : ℕ → Bool) (n : ℕ) → Rising (keep f (below n))
rising-keep f n = rising-from f 0 n

module _ (f : ℕ → List (List ℕ)) where
  -- an entry of the joined lists is an entry of one of them
  pub joined-only : (l : List ℕ) (q : List ℕ) → q ∈ joined f l → (x : ℕ) × (has x l ≡ true) × (q ∈ f x)
  joined-only [] q m = absurd (Memᴰ.not-nil m)
  joined-only (y ∷ l) q m = ⊎_elim (λ i. (y, rw (eq-eqb y y refl), i)) (λ i. later (joined-only l q i)) (Memᴰ.append_cases (f y) m)
    where
      later : (x : ℕ) × (has x l ≡ true) × (q ∈ f x) → (x : ℕ) × (has x (y ∷ l) ≡ true) × (q ∈ f x)
      later t = (t.0, rw t.1 (or-true (eqb t.0 y)), t.2)

  -- an entry of one of the lists is an entry of the joined lists
  pub joined-each : (l : List ℕ) (x : ℕ) (q : List ℕ) → has x l ≡ true → q ∈ f x → q ∈ joined f l
  joined-each [] x q h m = absurd (false≢true h)
  joined-each (y ∷ l) x q h m = go (eqb x y) refl h (λ k. joined-each l x q k m)
    where
      go : (b : Bool) → eqb x y ≡ b → (b || has x l) ≡ true → (has x l ≡ true → q ∈ joined f l) → q ∈ (f y ++ joined f l)
      go true e h later = Memᴰ.append_left (joined f l) (subst (λ (z : ℕ). q ∈ f z) (eqb-true x y e) m)
      go false e h later = Memᴰ.append_right (f y) (later h)

  -- ascending lists joined in ascending order ascend
  pub joined-ascending : (l : List ℕ) → Rising l → ((x : ℕ) → Ascending (f x)) →
      ((x y : ℕ) (p q : List ℕ) → x < y → p ∈ f x → q ∈ f y → less p q ≡ true) → Ascending (joined f l)
  joined-ascending [] r a h = tt
  joined-ascending (x ∷ l) r a h = ascending-append (f x) (joined f l) (a x) (joined-ascending l r.1 a h) across
    where
      across : (p q : List ℕ) → p ∈ f x → q ∈ joined f l → less p q ≡ true
      across p q i j = let t = joined-only l q j in h x t.0 p q (ltb-true x t.0 (all-has (ltb x) l t.0 r.0 t.1)) i t.2

-- an entry of a branch is its prefix, which passes, or one of the extensions
branch-only : (b : Bool) (p q : List ℕ) (l : List (List ℕ)) → q ∈ branch b p l → (b ≡ true) × ((q ≡ p) ⊎ (q ∈ l))
branch-only true p q l m = (refl, Memᴰ.cases_cons m)
branch-only false p q l m = absurd (Memᴰ.not-nil m)

-- a branch ascends, if its prefix comes before the extensions
branch-ascending : (b : Bool) (p : List ℕ) (l : List (List ℕ)) → AllAbove p l → Ascending l → Ascending (branch b p l)
branch-ascending true p l h a = (h, a)
branch-ascending false p l h a = tt

module _ (ok : List ℕ → Bool) (al : List ℕ) where
  -- p with x behind it, if that passes, and its extensions by at most n entries
  abbrev subtree : ℕ → List ℕ → ℕ → List (List ℕ)
  subtree n p x = let q = p ++ (x ∷ []) in branch (ok q) q (extensions ok al n q)

  -- q is p, then x, then fewer than n entries of the alphabet, and passes
  pub record Extends (n : ℕ) (p : List ℕ) (x : ℕ) (q : List ℕ) : Type 0 where
    pub rest : List ℕ
    pub whole : q ≡ p ++ (x ∷ rest)
    pub passes : ok q ≡ true
    pub short : length rest < n
    pub entries : all (λ y. has y al) rest ≡ true

  -- an entry of the subtree of x extends p by x, if the extensions in it extend their prefix
  subtree-only : (n : ℕ) (p : List ℕ) (x : ℕ) (q : List ℕ) →
      (q ∈ extensions ok al n (p ++ (x ∷ [])) → (y : ℕ) × (has y al ≡ true) × Extends n (p ++ (x ∷ [])) y q) →
      q ∈ subtree n p x → Extends (suc n) p x q
  subtree-only n p x q h m = ⊎_elim root (λ i. longer (h i)) t.1
    where
      t : (ok (p ++ (x ∷ [])) ≡ true) × ((q ≡ p ++ (x ∷ [])) ⊎ (q ∈ extensions ok al n (p ++ (x ∷ []))))
      t = let r = p ++ (x ∷ []) in branch-only (ok r) r q (extensions ok al n r) m

      root : q ≡ p ++ (x ∷ []) → Extends (suc n) p x q
      root e = record { rest = []; whole = e; passes = ap ok e ∙ t.0; short = omega arith; entries = refl }

      longer : (y : ℕ) × (has y al ≡ true) × Extends n (p ++ (x ∷ [])) y q → Extends (suc n) p x q
      longer u = record {
        rest = u.0 ∷ u.2.rest;
        whole = u.2.whole ∙ append_assoc p (x ∷ []) (u.0 ∷ u.2.rest);
        passes = u.2.passes;
        short = omega arith;
        entries = rw u.1 u.2.entries;
      }

  -- the extensions of p extend p by an entry of the alphabet
  pub extensions-only : (n : ℕ) (p q : List ℕ) → q ∈ extensions ok al n p → (x : ℕ) × (has x al ≡ true) × Extends n p x q
  unfolding extensions
  extensions-only zero p q m = absurd (Memᴰ.not-nil m)
  extensions-only (suc n) p q m =
      let t = joined-only (subtree n p) al q m in
      (t.0, t.1, subtree-only n p t.0 q (extensions-only n (p ++ (t.0 ∷ [])) q) t.2)

  -- each prefix of a list that passes passes
  pub prefix-passes : PrefixClosed ok → (p r : List ℕ) → ok (p ++ r) ≡ true → ok p ≡ true
  prefix-passes c p [] h = sym (ap ok (append-nil p)) ∙ h
  prefix-passes c p (x ∷ r) h = c p x (prefix-passes c (p ++ (x ∷ [])) r (ap ok (append_assoc p (x ∷ []) r) ∙ h))

  -- each list that extends p and passes is one of the extensions
  pub extensions-each : PrefixClosed ok → (n : ℕ) (p : List ℕ) (x : ℕ) (r : List ℕ) → ok (p ++ (x ∷ r)) ≡ true →
      all (λ y. has y al) (x ∷ r) ≡ true → length r < n → (p ++ (x ∷ r)) ∈ extensions ok al n p
  unfolding extensions
  extensions-each c zero p x r h k s = absurd (omega arith)
  extensions-each c (suc n) p x [] h k s =
      joined-each (subtree n p) al x (p ++ (x ∷ [])) ((and-eq-true_iff (has x al) true).0 k).0 (rw h (Memᴰ.head refl))
  extensions-each c (suc n) p x (y ∷ r) h k s =
      let e : p ++ (x ∷ []) ++ (y ∷ r) ≡ p ++ (x ∷ y ∷ r) = append_assoc p (x ∷ []) (y ∷ r) in
      let t = (and-eq-true_iff (has x al) (all (λ z. has z al) (y ∷ r))).0 k in
      let i = extensions-each c n (p ++ (x ∷ [])) y r (ap ok e ∙ h) t.1 (omega arith) in
      joined-each (subtree n p) al x (p ++ (x ∷ y ∷ r)) t.0
      (rw (prefix-passes c (p ++ (x ∷ [])) (y ∷ r) (ap ok e ∙ h)) (Memᴰ.tail (Memᴰ.cast (sym e) i)))

  -- the extensions of p are greater than p
  pub extensions-above : (n : ℕ) (p : List ℕ) → AllAbove p (extensions ok al n p)
  extensions-above n p = at_above p (extensions ok al n p) above
    where
      above : (q : List ℕ) → q ∈ extensions ok al n p → less p q ≡ true
      above q m = let t = extensions-only n p q m in ap (less p) t.2.whole ∙ less-extended p t.0 t.2.rest

  -- a subtree comes before that of a greater entry
  subtree-before : (n : ℕ) (p : List ℕ) (x y : ℕ) (a b : List ℕ) → x < y → a ∈ subtree n p x → b ∈ subtree n p y → less a b ≡ true
  subtree-before n p x y a b h i j =
      let s = subtree-only n p x a (extensions-only n (p ++ (x ∷ [])) a) i in
      let t = subtree-only n p y b (extensions-only n (p ++ (y ∷ [])) b) j in
      ap₂ less s.whole t.whole ∙ less-append p (x ∷ s.rest) (y ∷ t.rest) ∙ less-head x y s.rest t.rest h

  -- the extensions of p ascend
  pub extensions-ascending : Rising al → (n : ℕ) (p : List ℕ) → Ascending (extensions ok al n p)
  unfolding extensions
  extensions-ascending r zero p = tt
  extensions-ascending r (suc n) p =
      joined-ascending (subtree n p) al r (λ x. each x (extensions-ascending r n (p ++ (x ∷ [])))) (subtree-before n p)
    where
      each : (x : ℕ) → Ascending (extensions ok al n (p ++ (x ∷ []))) → Ascending (subtree n p x)
      each x a = let q = p ++ (x ∷ []) in branch-ascending (ok q) q (extensions ok al n q) (extensions-above n q) a

  -- listed are nonempty lists that pass, of at most n entries of the alphabet
  pub listed-only : (n : ℕ) (q : List ℕ) → q ∈ listed ok al n →
      (q ≢ []) × (ok q ≡ true) × (length q ≤ n) × (all (λ x. has x al) q ≡ true)
  listed-only n q m =
      let t = extensions-only n [] q m in
      let e = t.2 in
      (λ h. cons-ne-nil t.0 e.rest (sym e.whole ∙ h), e.passes, rw e.whole e.short, rw (e.whole, t.1) e.entries)

  -- each such list is listed
  pub listed-each : (n : ℕ) (q : List ℕ) → PrefixClosed ok → q ≢ [] → ok q ≡ true → all (λ x. has x al) q ≡ true →
      length q ≤ n → q ∈ listed ok al n
  listed-each n [] c e h k s = absurd (e refl)
  listed-each n (x ∷ q) c e h k s = extensions-each c n [] x q h k s

  -- the list ascends
  pub listed-ascending : (n : ℕ) → Rising al → Ascending (listed ok al n)
  listed-ascending n r = extensions-ascending r n []

  -- no entry is empty
  pub listed-nonempty : (n : ℕ) → AllAbove [] (listed ok al n)
  listed-nonempty n = extensions-above n []
