-- Reading and printing are one another's inverse.
use Prim.Native.Nat.{ℕ, suc, ◌≤◌}
use mathlib.Core.Path.{◌≡◌, refl, sym, ap, subst, ◌∙◌}
use mathlib.Core.Bool.{true, ◌&&◌}
use mathlib.Core.Logic.{◌⊎◌, inl, inr}
use mathlib.Core.List.{List, [], ◌∷◌, ◌++◌, append_assoc}
use lib.ListN.{length}
use lib.Dec.{leb}
use borrow.Author.Tests.{le-leb, leb-true}
use Rattle.lists.specs.Lists.{all}
use Rattle.lists.proofs.BoolLaws.{and_both, and_l, and_r}
use Rattle.text_format.specs.Bytes.{newline}
use Rattle.text_format.specs.Condition.{levels, max_levels, max_value, fits, printed}
use Rattle.text_format.specs.Document.{Document, field_bounds, line_of, lines_of, print, within, well_formed}
use Rattle.text_format.specs.Reading.{Read, word, condition, event_lines, values, ended, document_in, document, got, breach}
use Rattle.text_format.specs.Theorems.{ReadsLegal, OneReading, Decided}
use Rattle.text_format.proofs.BackLaws.{condition-back}
use Rattle.text_format.proofs.LineLaws.{lines-sound, values-sound, lines-full, values-full, lines-fuel, values-fuel}
use Rattle.text_format.proofs.SoundLaws.{breach-not-got, got-value, got-rest, through, word_sound, condition-sound}

pub print-as : (d : Document) → print d ≡ lines_of d.events ++
    (newline ∷ (line_of d.initial ++ (printed d.outcome ++ (newline ∷ []))))
unfolding print
print-as d = simp append_assoc

ended-sound : (e d : Document) (s r : List ℕ) → ended e s ≡ got d r → (e ≡ d) × (s ≡ []) × (r ≡ [])
ended-sound e d [] r h = (got-value h, refl, sym (got-rest h))
ended-sound e d (c ∷ s) r h = breach-not-got h

module _ (most : ℕ) (d : Document) where
  pub form-lines : well_formed most d ≡ true → all (within field_bounds) d.events ≡ true
  unfolding well_formed
  form-lines h = and_l _ _ (and_l _ _ h)

  pub form-some : well_formed most d ≡ true → leb 1 (length d.initial) ≡ true
  unfolding well_formed
  form-some h = and_l _ _ (and_r (all (within field_bounds) d.events) _ (and_l _ _ h))

  pub form-values : well_formed most d ≡ true → all (λ v. leb v max_value) d.initial ≡ true
  unfolding well_formed
  form-values h = and_r (leb 1 (length d.initial)) _ (and_r (all (within field_bounds) d.events) _ (and_l _ _ h))

  pub form-fits : well_formed most d ≡ true → fits d.outcome ≡ true
  unfolding well_formed
  form-fits h = and_l _ _ (and_r (all (within field_bounds) d.events &&
      (leb 1 (length d.initial) && all (λ v. leb v max_value) d.initial)) _ h)

  pub form-deep : well_formed most d ≡ true → levels d.outcome ≤ most
  unfolding well_formed
  form-deep h = leb-true _ _ (and_r (fits d.outcome) _ (and_r
      (all (within field_bounds) d.events && (leb 1 (length d.initial) && all (λ v. leb v max_value) d.initial)) _ h))

  pub well-formed : all (within field_bounds) d.events ≡ true → leb 1 (length d.initial) ≡ true
      → all (λ v. leb v max_value) d.initial ≡ true
      → fits d.outcome ≡ true → levels d.outcome ≤ most → well_formed most d ≡ true
  unfolding well_formed
  well-formed a b c e f = and_both _ _ (and_both _ _ a (and_both _ _ b c)) (and_both _ _ e (le-leb (levels d.outcome) most f))

  pub document-full : well_formed most d ≡ true → document_in most (print d) ≡ got d []
  unfolding document_in word
  document-full h =
      ap (document_in most) (print-as d)
      ∙ rw (
        lines-full _ d.events (line_of d.initial ++ (printed d.outcome ++ (newline ∷ [])))
            (lines-fuel d.events (newline ∷ (line_of d.initial ++ (printed d.outcome ++ (newline ∷ []))))) (form-lines h),
        values-full _ d.initial (printed d.outcome ++ (newline ∷ []))
            (values-fuel d.initial (printed d.outcome ++ (newline ∷ []))) (form-some h) (form-values h),
        condition-back d.outcome most (newline ∷ []) (form-deep h) (form-fits h) refl,
      )

pub document-sound : (most : ℕ) (s : List ℕ) (d : Document) (r : List ℕ) → document_in most s ≡ got d r
    → (well_formed most d ≡ true) × (s ≡ print d) × (r ≡ [])
unfolding document_in
document-sound most s d r h =
    let a = through (event_lines (suc (length s)) s) _ d r h in
    let b = through (values (suc (length a.1)) a.1) _ d r a.3 in
    let c = through (condition most b.1) _ d r b.3 in
    let e = through (word (newline ∷ []) c.1) _ d r c.3 in
    let f = ended-sound _ d e.1 r e.3 in
    let x = lines-sound _ s a.0 a.1 a.2 in
    let y = values-sound _ a.1 b.0 b.1 b.2 in
    let z = condition-sound most b.1 c.0 c.1 c.2 in
    let w : c.1 ≡ newline ∷ [] = word_sound _ c.1 e.0 e.1 e.2 ∙ ap (λ (l : List ℕ). newline ∷ l) f.1 in
    let t : s ≡ lines_of a.0 ++ (newline ∷ (line_of b.0 ++ (printed c.0 ++ (newline ∷ [])))) =
    x.0 ∙ ap (λ (l : List ℕ). lines_of a.0 ++ (newline ∷ l)) (y.text ∙ ap (λ (l : List ℕ). line_of b.0 ++ l)
    (z.text ∙ ap (λ (l : List ℕ). printed c.0 ++ l) w)) in
    let g : Document = record { events = a.0; initial = b.0; outcome = c.0 } in
    subst (λ (d : Document). (well_formed most d ≡ true) × (s ≡ print d) × (r ≡ [])) f.0
    (well-formed most g x.1 y.some y.fit z.fit z.deep, t ∙ sym (print-as g), f.2)

pub reads-legal : ReadsLegal
reads-legal s d = (
  (λ h. let a = document-sound max_levels s d [] h in (a.0, a.1)),
  (λ h. ap document h.1 ∙ document-full max_levels d h.0),
)

pub one-reading : OneReading
one-reading d e h k p = got-value (sym (document-full max_levels d h) ∙ ap document p ∙ document-full max_levels e k)

pub decided : Decided
decided s = go (document s) refl
  where
    go : (x : Read Document) → document s ≡ x → ((d : Document) × (document s ≡ got d []))
        ⊎ ((n : ℕ) × (r : List ℕ) × (document s ≡ breach n r))
    go (got d r) e = inl (d, e ∙ ap (λ (l : List ℕ). got d l) (document-sound max_levels s d r e).2)
    go (breach n r) e = inr (n, r, e)
