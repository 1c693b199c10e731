-- One lawful order is noted: what it gives is put among the rows kept, or isn't above the previous outcome.
use Prim.Native.Nat.{ℕ, ◌*◌, ◌≤◌}
use native.Mathlib.Omega.{arith}
use native.Mathlib.Nat.{mul-le-mul_right}
use mathlib.Core.Path.{◌≡◌, sym, ap, ap₂, subst, ◌∙◌}
use mathlib.Core.Bool.{Bool, true, false, cond}
use mathlib.Core.List.{List}
use lib.ListN.{take}
use Rattle.lists.specs.Ascending.{less, Ascending}
use Rattle.sorted_rows.specs.Sorted.{insert, rows}
use Rattle.sorted_rows.specs.Places.{Puts}
use Rattle.outcomes.specs.Outcomes.{outcome_of, outcome_length}
use Rattle.outcome_values.specs.Giving.{Gives}
use Rattle.outcome_listing.specs.declared.Asked.{Asked}
use Rattle.outcome_listing.specs.Gathering.{Notes}

module _ (facts : List (List ℕ)) (gmo : List ℕ) (locations : ℕ) (asked : Asked) (previous : List ℕ) (n : ℕ) (kept : List ℕ) (w : ℕ) (value : List ℕ)
    (gives : Gives facts gmo asked.readers locations w value) where
  -- it is above, and was put in
  pub note-put : (above : Bool) → above ≡ less previous (take w value) → above ≡ true → (r : ℕ) (after· : List ℕ) →
      Puts asked.room (take w value) (rows w n kept) (rows w r after·) → Notes facts gmo locations asked previous n kept r after·
  note-put above e h r after· put t f v o c m x a =
      let g = gives t f v o c m x in
      ap (λ (k : ℕ). rows k r after·) (sym g.1) ∙ put (subst (λ (k : ℕ). Ascending (rows k n kept)) (sym g.1) a)
      ∙ ap₂ (λ (k : ℕ) (q : List ℕ). take asked.room (insert q (rows k n kept))) g.1 g.0
      ∙ ap (λ (b : Bool). cond b (take asked.room (insert (outcome_of t gmo) (rows (outcome_length t) n kept))) (rows (outcome_length t) n kept))
      (sym (ap (less previous) (sym g.0) ∙ sym e ∙ h))

  -- it isn't
  pub note-left : (above : Bool) → above ≡ less previous (take w value) → above ≡ false → Notes facts gmo locations asked previous n kept n kept
  note-left above e h t f v o c m x _ =
      let g = gives t f v o c m x in
      ap (λ (b : Bool). cond b (take asked.room (insert (outcome_of t gmo) (rows (outcome_length t) n kept))) (rows (outcome_length t) n kept))
      (sym (ap (less previous) (sym g.0) ∙ sym e ∙ h))

-- rows of any width fit where the widest do
pub room-enough : (w most room k : ℕ) → w ≤ most → most * room ≤ k → w * room ≤ k
room-enough w most room k h m = omega (arith, mul-le-mul_right {m = w} {n = most} room h)
