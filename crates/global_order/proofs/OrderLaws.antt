-- Laws for a loop along the order that looks for a, and then for b after it.
use Prim.Native.Nat.{ℕ, suc, ◌+◌, ◌≤◌, ◌<◌}
use mathlib.Core.Path.{◌≡◌, refl, sym, ap, ◌∙◌}
use mathlib.Core.Bool.{Bool, true, false, cond, ◌&&◌, ◌||◌, false≢true}
use mathlib.Core.List.{List, [], ◌∷◌}
use native.Mathlib.Numerals.{add-one}
use lib.Dec.{eqb}
use lib.ListN.{length, get_or, drop, drop_of_length-le}
use lib.Seq.{drop-cons}
use Rattle.lists.specs.Lists.{has, before}

-- what is still to be found in the rest of the order, where a was seen or not
abbrev pub onward : Bool → ℕ → ℕ → List ℕ → Bool
onward true a b l = has b l
onward false a b l = before l a b

-- the entry x is b, after a
hit : (s : Bool) (a b x : ℕ) (l : List ℕ) → (s && eqb b x) ≡ true → onward s a b (x ∷ l) ≡ true
hit true a b x l h = rw h
hit false a b x l h = absurd (false≢true h)

-- it isn't
more : (s : Bool) (a b x : ℕ) (l : List ℕ) → (s && eqb b x) ≡ false → onward s a b (x ∷ l) ≡ onward (s || eqb a x) a b l
more true a b x l h = rw h
more false a b x l h = elim (eqb a x) as (λ t. cond t (has b l) (before l a b) ≡ onward t a b l) [ true ↦ refl | false ↦ refl ]

pub onward-hit : (s : Bool) (a b : ℕ) (l : List ℕ) (i : ℕ) → i < length l → (s && eqb b (get_or l i 0)) ≡ true
    → onward s a b (drop i l) ≡ true
onward-hit s a b l i k h = ap (onward s a b) (drop-cons l i 0 k) ∙ hit s a b (get_or l i 0) (drop (suc i) l) h

pub onward-more : (s : Bool) (a b : ℕ) (l : List ℕ) (i : ℕ) → i < length l → (s && eqb b (get_or l i 0)) ≡ false
    → onward s a b (drop i l) ≡ onward (s || eqb a (get_or l i 0)) a b (drop (i + 1) l)
onward-more s a b l i k h =
    ap (onward s a b) (drop-cons l i 0 k) ∙ more s a b (get_or l i 0) (drop (suc i) l) h
    ∙ ap (λ (j : ℕ). onward (s || eqb a (get_or l i 0)) a b (drop j l)) (sym (add-one i))

-- the order has ended
pub onward-end : (s : Bool) (a b : ℕ) (l : List ℕ) (i : ℕ) → length l ≤ i → onward s a b (drop i l) ≡ false
onward-end s a b l i h = ap (onward s a b) (drop_of_length-le l h) ∙ none s
  where
    none : (s : Bool) → onward s a b [] ≡ false
    none true = refl
    none false = refl
