-- Lists between two that differ in their last entry.
use Prim.Native.Nat.{ℕ, suc, ◌≤◌, ◌<◌}
use native.Mathlib.Omega.{arith}
use mathlib.Core.Path.{◌≡◌, refl, sym, ap, ap₂, ◌∙◌}
use mathlib.Core.Bool.{Bool, true, false, cond, not, true≢false}
use mathlib.Core.List.{List, [], ◌∷◌, ◌++◌, append_assoc}
use mathlib.Core.Logic.{⊎_elim}
use lib.Dec.{eqb, ltb}
use borrow.Author.Tests.{ltb-true, ltb-false, lt-ltb, le-ltb, eqb-true, eqb-false, ne_eqb}
use Rattle.lists.specs.Ascending.{less}
use Rattle.lists.proofs.AscendingLaws.{less-head, less-tail, less-cases, less-trans, less-append, less-extended}

-- no list comes before the empty one
less-nil : (r : List ℕ) → less r [] ≡ false
less-nil [] = refl
less-nil (y ∷ r) = refl

-- of two numbers that differ one is less
ltb-flip : (x y : ℕ) → eqb x y ≡ false → ltb x y ≡ not (ltb y x)
ltb-flip x y e = go (ltb x y) refl
  where
    go : (b : Bool) → ltb x y ≡ b → b ≡ not (ltb y x)
    go true l = sym (ap not (le-ltb y x (omega (arith, ltb-true x y l))))
    go false l = sym (ap not (lt-ltb y x (omega (arith, ltb-false x y l, eqb-false x y e))))

-- greater than p is at least p with 0 behind it
pub less-after : (p r : List ℕ) → less p r ≡ not (less r (p ++ (0 ∷ [])))
less-after [] [] = refl
less-after [] (y ∷ r) =
    let low : ltb y 0 ≡ false = le-ltb y 0 (omega arith) in
    rw (less-nil r, low) (elim (eqb y 0) as (λ b. true ≡ not (cond b false false)) [ true ↦ refl | false ↦ refl ])
less-after (x ∷ p) [] = refl
less-after (x ∷ p) (y ∷ r) = go (eqb x y) refl (less-after p r)
  where
    go : (b : Bool) → eqb x y ≡ b → less p r ≡ not (less r (p ++ (0 ∷ []))) →
        cond b (less p r) (ltb x y) ≡ not (less (y ∷ r) (x ∷ (p ++ (0 ∷ []))))
    go true e t = t ∙ sym (ap not (less-tail y x r (p ++ (0 ∷ [])) (sym (eqb-true x y e))))
    go false e t = rw (ne_eqb y x (λ q. eqb-false x y e (sym q))) (ltb-flip x y e)

-- r is p, then an entry from lo on, then more
pub record Begins (p : List ℕ) (lo : ℕ) (r : List ℕ) : Type 0 where
  pub entry : ℕ
  pub rest : List ℕ
  pub whole : r ≡ p ++ (entry ∷ rest)
  pub low : lo ≤ entry

-- what is at least lo alone begins with an entry from lo on
pub begins-at : (lo : ℕ) (r : List ℕ) → less r (lo ∷ []) ≡ false → Begins [] lo r
begins-at lo [] h = absurd (true≢false h)
begins-at lo (x ∷ r) h = record { entry = x; rest = r; whole = refl; low = go (ltb x lo) refl }
  where
    go : (b : Bool) → ltb x lo ≡ b → lo ≤ x
    go true e = absurd (true≢false (sym (less-head x lo r [] (ltb-true x lo e)) ∙ h))
    go false e = ltb-false x lo e

-- what is at least p with lo behind it and less than p with hi behind it begins with p and an entry between
pub between : (p : List ℕ) (lo hi : ℕ) (r : List ℕ) → less r (p ++ (lo ∷ [])) ≡ false → less r (p ++ (hi ∷ [])) ≡ true →
    (b : Begins p lo r) × (b.entry < hi)
unfolding begins-at
between [] lo hi [] h k = absurd (true≢false h)
between [] lo hi (x ∷ r) h k =
    (begins-at lo (x ∷ r) h, ⊎_elim (λ l. l) (λ q. absurd (true≢false (sym q.1 ∙ less-nil r))) (less-cases x hi r [] k))
between (y ∷ p) lo hi [] h k = absurd (true≢false h)
between (y ∷ p) lo hi (x ∷ r) h k = ⊎_elim lower (λ q. same q (between p lo hi r)) (less-cases x y r (p ++ (hi ∷ [])) k)
  where
    lower : x < y → (b : Begins (y ∷ p) lo (x ∷ r)) × (b.entry < hi)
    lower l = absurd (true≢false (sym (less-head x y r (p ++ (lo ∷ [])) l) ∙ h))

    same : (x ≡ y) × (less r (p ++ (hi ∷ [])) ≡ true) →
        (less r (p ++ (lo ∷ [])) ≡ false → less r (p ++ (hi ∷ [])) ≡ true → (b : Begins p lo r) × (b.entry < hi)) →
        (b : Begins (y ∷ p) lo (x ∷ r)) × (b.entry < hi)
    same q later =
        let t = later (sym (less-tail x y r (p ++ (lo ∷ [])) q.0) ∙ h) q.1 in
        let e = ap₂ (λ (z : ℕ) (m : List ℕ). z ∷ m) q.0 t.0.whole in
        (record { entry = t.0.entry; rest = t.0.rest; whole = e; low = t.0.low }, t.1)

-- what is at least p with e and lo behind it, and less than p with e + 1 behind it, begins with p, e and an entry from lo on
pub between-up : (p : List ℕ) (e lo : ℕ) (r : List ℕ) → less r (p ++ (e ∷ []) ++ (lo ∷ [])) ≡ false → less r (p ++ (suc e ∷ [])) ≡ true →
    Begins (p ++ (e ∷ [])) lo r
between-up p e lo r h k =
    record { entry = t.entry; rest = t.rest; whole = same ∙ ap (λ (m : List ℕ). p ++ (e ∷ []) ++ m) t.whole; low = t.low }
  where
    at_least : (b : Bool) → less r (p ++ (e ∷ [])) ≡ b → b ≡ false
    at_least true d = sym (less-trans r (p ++ (e ∷ [])) (p ++ (e ∷ []) ++ (lo ∷ [])) d (less-extended (p ++ (e ∷ [])) lo [])) ∙ h
    at_least false d = refl

    b : (b : Begins p e r) × (b.entry < suc e)
    b = between p e (suc e) r (at_least (less r (p ++ (e ∷ []))) refl) k

    same : r ≡ p ++ (e ∷ []) ++ b.0.rest
    same =
        let q : b.0.entry ≡ e = omega (arith, b.0.low, b.1) in
        b.0.whole ∙ ap (λ (x : ℕ). p ++ (x ∷ b.0.rest)) q ∙ sym (append_assoc p (e ∷ []) b.0.rest)

    t : Begins [] lo b.0.rest
    t =
        begins-at lo b.0.rest
        (sym (less-append (p ++ (e ∷ [])) b.0.rest (lo ∷ [])) ∙ sym (ap (λ (m : List ℕ). less m (p ++ (e ∷ []) ++ (lo ∷ []))) same) ∙ h)
