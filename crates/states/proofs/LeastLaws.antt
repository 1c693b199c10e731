-- How least runs are put together, and the first entry of an ascending list that is greater than a list.
use Prim.Native.Nat.{ℕ, ◌<◌}
use native.Mathlib.Omega.{arith}
use mathlib.Core.Path.{◌≡◌, refl, sym, ap, ◌∙◌, subst}
use mathlib.Core.Bool.{Bool, true, false, false≢true}
use mathlib.Core.List.Memᴰ
use mathlib.Core.List.{List, [], ◌∷◌}
use mathlib.Core.Logic.{◌⊎◌, inl, inr, ⊎_elim}
use mathlib.Core.Option.{none, some}
use lib.Dec.{eqb, ltb}
use borrow.Author.Tests.{ltb-true, ltb-false, eqb-true, eqb-false}
use Rattle.lists.specs.Lists.{◌∈◌, keep}
use Rattle.lists.specs.Ascending.{less, Ascending}
use Rattle.lists.proofs.BoolLaws.{and_l, and_r, and_both, not-either, is_false}
use Rattle.lists.proofs.MemberLaws.{keep-only, keep-each}
use Rattle.lists.proofs.KeepLaws.{keep-none}
use Rattle.lists.proofs.AscendingLaws.{less-head, less-tail, less-cases, less-asym, above_at, ascending-keep}
use Rattle.table.specs.declared.Table.{Table}
use Rattle.states.specs.declared.State.{State}
use Rattle.states.specs.States.{accepts, step, ends, runs}
use Rattle.states.specs.Completions.{Told, Least, LeastAbove, NoneAbove}
use Rattle.states.specs.Decisions.{first}

-- y is below, at or above e
three_ways : (y e : ℕ) → (y < e) ⊎ ((y ≡ e) ⊎ (e < y))
three_ways y e = go (ltb y e) refl (eqb y e) refl
  where
    go : (b : Bool) → ltb y e ≡ b → (c : Bool) → eqb y e ≡ c → (y < e) ⊎ ((y ≡ e) ⊎ (e < y))
    go true h c k = inl (ltb-true y e h)
    go false h true k = inr (inl (eqb-true y e k))
    go false h false k = inr (inr (omega (arith, ltb-false y e h, eqb-false y e k)))

-- nothing is less than the empty list
pub less-nil : (l : List ℕ) → less l [] ≡ false
less-nil [] = refl
less-nil (x ∷ l) = refl

module _ (t : Table) (s : State) where
  -- a run begins with an event that may be placed, and goes on from there
  module _ (y : ℕ) (l : List ℕ) (h : runs t s (y ∷ l) ≡ true) where
    pub run-may : accepts t s y ≡ true
    unfolding runs
    run-may = and_l (accepts t s y) _ h

    pub run_on : runs t (step t s y) l ≡ true
    unfolding runs
    run_on = and_r (accepts t s y) _ h

  pub run_more : (e : ℕ) (l : List ℕ) → accepts t s e ≡ true → runs t (step t s e) l ≡ true → runs t s (e ∷ l) ≡ true
  unfolding runs
  run_more e l a r = and_both (accepts t s e) _ a r

  -- the same of an event that is named otherwise
  run-as : (x y : ℕ) (l : List ℕ) → x ≡ y → runs t s (y ∷ l) ≡ true → (accepts t s x ≡ true) × (runs t (step t s x) l ≡ true)
  run-as x y l q h =
      subst (λ (z : ℕ). (accepts t s z ≡ true) × (runs t (step t s z) l ≡ true)) (sym q) (run-may y l h, run_on y l h)

  -- k doesn't lead on
  abbrev pub Fruitless : ℕ → Type 0
  Fruitless k = accepts t s k ≡ true → Told t (step t s k) false

  -- no run begins with such an event
  fruitless-none : (y : ℕ) (l : List ℕ) → Fruitless y → runs t s (y ∷ l) ≡ true → ⊥
  fruitless-none y l f h = not-either _ (run_on y l h) (f (run-may y l h) l)

  pub tail-above : (x : ℕ) (p w : List ℕ) → accepts t s x ≡ true → LeastAbove t (step t s x) p w →
      LeastAbove t s (x ∷ p) (x ∷ w)
  tail-above x p w a h = record {
    run = run_more x w a h.run;
    above = less-tail x x p w refl ∙ h.above;
    least = least;
  }
    where
      least : (l : List ℕ) → runs t s l ≡ true → less (x ∷ p) l ≡ true → less l (x ∷ w) ≡ false
      least [] r g = absurd (false≢true g)
      least (y ∷ l) r g =
          ⊎_elim (λ (k : x < y). less-asym (x ∷ w) (y ∷ l) (less-head x y w l k))
          (λ k. less-tail y x l w (sym k.0) ∙ h.least l (run-as x y l k.0 r).1 k.1)
          (less-cases x y p l g)

  -- w is the least run behind e: no run that begins with e or a greater event is less
  not-less : (e : ℕ) (w : List ℕ) → Least t (step t s e) w → (y : ℕ) (l : List ℕ) → runs t s (y ∷ l) ≡ true → (y < e → ⊥) →
      less (y ∷ l) (e ∷ w) ≡ false
  not-less e w h y l r n =
      ⊎_elim (λ k. absurd (n k))
      (⊎_elim (λ (q : y ≡ e). less-tail y e l w q ∙ h.least l (run-as e y l (sym q) r).1)
      (λ (k : e < y). less-asym (e ∷ w) (y ∷ l) (less-head e y w l k)))
      (three_ways y e)

  pub head-above : (x e : ℕ) (p w : List ℕ) → x < e → accepts t s e ≡ true → Least t (step t s e) w →
      (accepts t s x ≡ true → NoneAbove t (step t s x) p) → ((k : ℕ) → x < k → k < e → Fruitless k) →
      LeastAbove t s (x ∷ p) (e ∷ w)
  head-above x e p w u a h z f = record {
    run = run_more e w a h.run;
    above = less-head x e p w u;
    least = least;
  }
    where
      least : (l : List ℕ) → runs t s l ≡ true → less (x ∷ p) l ≡ true → less l (e ∷ w) ≡ false
      least [] r g = absurd (false≢true g)
      least (y ∷ l) r g =
          ⊎_elim (λ (k : x < y). not-less e w h y l r (λ m. fruitless-none y l (f y k m) r))
          (λ k. let q = run-as x y l k.0 r in absurd (not-either _ k.1 (z q.0 l q.1)))
          (less-cases x y p l g)

  -- e is the lowest that leads on
  module _ (e : ℕ) (w : List ℕ) (a : accepts t s e ≡ true) (h : Least t (step t s e) w) (f : (k : ℕ) → k < e → Fruitless k) where
    pub any-above : LeastAbove t s [] (e ∷ w)
    any-above = record { run = run_more e w a h.run; above = refl; least = least }
      where
        least : (l : List ℕ) → runs t s l ≡ true → less [] l ≡ true → less l (e ∷ w) ≡ false
        least [] r g = absurd (false≢true g)
        least (y ∷ l) r g = not-less e w h y l r (λ m. fruitless-none y l (f y m) r)

    pub least_more : ends t s ≡ false → Least t s (e ∷ w)
    unfolding runs
    least_more n = record { run = run_more e w a h.run; least = least }
      where
        least : (l : List ℕ) → runs t s l ≡ true → less l (e ∷ w) ≡ false
        least [] r = absurd (not-either _ r n)
        least (y ∷ l) r = not-less e w h y l r (λ m. fruitless-none y l (f y m) r)

  -- at an end nothing is less than the empty list
  pub least-end : ends t s ≡ true → Least t s []
  unfolding runs
  least-end h = record { run = h; least = λ l r. less-nil l }

  pub none_above : (x : ℕ) (p : List ℕ) → (accepts t s x ≡ true → NoneAbove t (step t s x) p) →
      ((k : ℕ) → x < k → Fruitless k) → NoneAbove t s (x ∷ p)
  none_above x p z f [] r = refl
  none_above x p z f (y ∷ l) r = is_false _ (λ g.
      ⊎_elim (λ (k : x < y). fruitless-none y l (f y k) r)
      (λ k. let q = run-as x y l k.0 r in not-either _ k.1 (z q.0 l q.1))
      (less-cases x y p l g))

  pub none_any : ((k : ℕ) → Fruitless k) → NoneAbove t s []
  none_any f [] r = refl
  none_any f (y ∷ l) r = absurd (fruitless-none y l (f y) r)

-- the first of an ascending list is the one than which none is less
first-least : (l : List (List ℕ)) (w : List ℕ) → Ascending l → w ∈ l → ((q : List ℕ) → q ∈ l → less q w ≡ false) →
    first l ≡ some w
first-least [] w a m h = absurd (Memᴰ.not-nil m)
first-least (q ∷ l) w a m h =
    ⊎_elim (λ (e : w ≡ q). ap some (sym e))
    (λ i. absurd (not-either _ (above_at q l a.0 w i) (h q (Memᴰ.head refl))))
    (Memᴰ.cases_cons m)

pub first_above : (l : List (List ℕ)) (p w : List ℕ) → Ascending l → w ∈ l → less p w ≡ true →
    ((q : List ℕ) → q ∈ l → less p q ≡ true → less q w ≡ false) → first (keep (less p) l) ≡ some w
first_above l p w a m g h =
    first-least (keep (less p) l) w (ascending-keep (less p) l a) (keep-each (less p) l w m g)
    (λ q i. let k = keep-only (less p) l q i in h q k.0 k.1)

pub none_first : (l : List (List ℕ)) (p : List ℕ) → ((q : List ℕ) → q ∈ l → less p q ≡ false) → first (keep (less p) l) ≡ none
none_first l p h = ap first (keep-none (less p) l h)
