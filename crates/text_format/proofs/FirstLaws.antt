-- A text has one first breach, and none if it is legal.
use Prim.Native.Nat.{ℕ}
use mathlib.Core.Path.{◌≡◌, refl, sym, ap, subst, ◌∙◌}
use mathlib.Core.Logic.{◌⊎◌, inl, inr, ⊎_elim}
use mathlib.Core.List.{List, [], ◌∷◌, ◌++◌, append_assoc, append-nil}
use Rattle.text_format.specs.Condition.{max_levels}
use Rattle.text_format.specs.Document.{Legal, Begins}
use Rattle.text_format.specs.Reading.{breach}
use Rattle.text_format.specs.Theorems.{Fault, FirstBreach, BreachDecides}
use Rattle.text_format.proofs.PlaceLaws.{breach-first}
use Rattle.text_format.proofs.ReadingLaws.{reads-legal, decided}

-- q is p and more
abbrev Longer : (p r q t : List ℕ) → Type 0
Longer p r q t = (b : ℕ) × (u : List ℕ) × (q ≡ p ++ (b ∷ u)) × (r ≡ b ∷ (u ++ t))

longer-cons : (b c : ℕ) (p r q t : List ℕ) → b ≡ c → Longer p r q t → Longer (b ∷ p) r (c ∷ q) t
longer-cons b c p r q t h l = (l.0, l.1, ap (λ (x : ℕ). x ∷ q) (sym h) ∙ ap (λ (x : List ℕ). b ∷ x) l.2, l.3)

-- two fronts of one text: the same, or one is longer
fronts : (p q r t : List ℕ) → p ++ r ≡ q ++ t → ((p ≡ q) × (r ≡ t)) ⊎ (Longer p r q t ⊎ Longer q t p r)
fronts [] [] r t e = inl (refl, e)
fronts [] (c ∷ q) r t e = inr (inl (c, q, refl, e))
fronts (b ∷ p) [] r t e = inr (inr (b, p, refl, sym e))
fronts (b ∷ p) (c ∷ q) r t e =
    let h : b ≡ c = cc e in
    ⊎_elim (λ w. inl (ap (λ (x : ℕ). x ∷ p) h ∙ ap (λ (x : List ℕ). c ∷ x) w.0, w.1))
    (λ w. ⊎_elim (λ l. inr (inl (longer-cons b c p r q t h l))) (λ l. inr (inr (longer-cons c b q t p r (sym h) l))) w)
    (fronts p q r t (cc e))

-- what begins with more begins with less
begins-less : (most : ℕ) (p : List ℕ) (b : ℕ) (u : List ℕ) → Begins most (p ++ (b ∷ u)) → Begins most (p ++ (b ∷ []))
begins-less most p b u g = (u ++ g.0, subst (Legal most) (simp append_assoc) g.1)

module _ (s : List ℕ) (n : ℕ) (r : List ℕ) (f : FirstBreach s n r) where
  -- no legal text goes on past a breach
  not-longer : (q t : List ℕ) → Begins max_levels q → Longer f.front r q t → ⊥
  not-longer q t g l =
      (subst (λ (x : List ℕ). Fault max_levels f.front n x) l.3 f.fault).0
      (begins-less max_levels f.front l.0 l.1 (subst (Begins max_levels) l.2 g))

  not-legal : Legal max_levels s → ⊥
  not-legal g = go r f.text f.fault
    where
      go : (r : List ℕ) → s ≡ f.front ++ r → Fault max_levels f.front n r → ⊥
      go [] e x = x.1 (subst (Legal max_levels) (e ∙ append-nil f.front) g)
      go (b ∷ r) e x = x.0 (r, subst (Legal max_levels) (e ∙ sym (append_assoc f.front (b ∷ []) r)) g)

-- the number of a fault
same_number : (most : ℕ) (p r : List ℕ) (n m : ℕ) → Fault most p n r → Fault most p m r → n ≡ m
same_number most p [] n m x y = x.0 ∙ sym y.0
same_number most p (b ∷ r) n m x y =
    ⊎_elim (λ i. ⊎_elim (λ j. i ∙ sym j) (λ j. x.1.1 (y.1.0 j.0) ∙ sym j.0) y.2)
    (λ i. i.0 ∙ sym (y.1.1 (x.1.0 i.0))) x.2

one-breach : (s : List ℕ) (n m : ℕ) (r t : List ℕ) → FirstBreach s n r → FirstBreach s m t → (n ≡ m) × (r ≡ t)
one-breach s n m r t f g =
    ⊎_elim (λ w. (
      same_number max_levels f.front r n m f.fault
          (subst (λ (p : List ℕ). Fault max_levels p m r) (sym w.0) (subst (λ (x : List ℕ). Fault max_levels g.front m x)
          (sym w.1) g.fault)),
      w.1,
    ))
    (λ w. ⊎_elim (λ l. absurd (not-longer s n r f g.front t g.begins l))
    (λ l. absurd (not-longer s m t g f.front r f.begins l)) w)
    (fronts f.front g.front r t (sym f.text ∙ g.text))

pub breach-decides : BreachDecides
breach-decides s n r = (
  breach-first s n r,
  (λ f. ⊎_elim
      (λ d. let w = (reads-legal s d.0).0 d.1 in absurd (not-legal s n r f (d.0, w.0, w.1)))
      (λ b. let e = one-breach s b.0 n b.1 r (breach-first s b.0 b.1 b.2) f in
      b.2 ∙ ap (λ (k : ℕ). breach k b.1) e.0 ∙ ap (breach n) e.1)
      (decided s)),
)
