-- What the readers return and what the locations end at is what an order gives.
use Prim.Native.Nat.{ℕ, ◌+◌, ◌%◌, ◌≤◌}
use native.Mathlib.Omega.{arith}
use native.Mathlib.Nat.{mod-eq_of_lt}
use mathlib.Core.Path.{◌≡◌, refl, sym, ap, ap₂, ◌∙◌}
use mathlib.Core.Bool.{true}
use mathlib.Core.List.{List, [], ◌∷◌, ◌++◌, map}
use lib.ListN.{length, take, length-map}
use lib.Seq.{length-take-le}
use lib.Dec.{ltb}
use borrow.Author.Tests.{ltb-true}
use Rattle.lists.specs.Below.{below}
use Rattle.lists.specs.Lists.{has}
use Rattle.lists.proofs.BoolLaws.{and_l, and_r}
use Rattle.lists.proofs.MemberLaws.{has_here, has-later, has-below, kept-has}
use Rattle.masks.proofs.ListedLaws.{bits, bits-mask}
use Rattle.table.specs.Events.{capacity, reads}
use Rattle.model.specs.Following.{returned_value, end_value}
use Rattle.order_values.specs.Following.{Leaves}
use Rattle.order_values.proofs.NarrowLaws.{returned-narrow, end-narrow}
use Rattle.outcomes.specs.Outcomes.{readers, outcome_of, outcome_length}
use Rattle.outcome_values.specs.Giving.{row_length, value_in, ReturnsIn, EndsIn, GivesBy, Gives}

-- lists of the same values
map_same : (f g : ℕ → ℕ) (l : List ℕ) → ((x : ℕ) → has x l ≡ true → f x ≡ g x) → map f l ≡ map g l
map_same f g [] h = refl
map_same f g (x ∷ l) h =
    ap₂ (λ (y : ℕ) (m : List ℕ). y ∷ m) (h x (has_here [] l x)) (map_same f g l (λ y i. h y (has-later y x l i)))

module _ (facts : List (List ℕ)) (left gmo : List ℕ) (mask locations : ℕ) where
  pub joined : (returned at : List ℕ) → ReturnsIn facts left gmo returned → EndsIn facts left gmo at →
      (n : ℕ) (first values : List ℕ) → n ≤ capacity → length first ≡ row_length →
      take n first ≡ map (value_in returned) (bits capacity mask) →
      take (n + locations) values ≡ take n first ++ map (value_in at) (below locations) →
      GivesBy facts left gmo mask locations (n + locations) values
  unfolding outcome_of outcome_length readers
  joined returned at reads_in ends-in n first values small long firsts all_of t f v o c given m e =
      let these : take n first ≡ map (returned_value t gmo) (readers t) =
      firsts ∙ ap (λ (x : ℕ). map (value_in returned) (bits capacity x)) m
      ∙ ap (map (value_in returned)) (bits-mask capacity (reads t) t.count (omega (arith, f.table.small.events)))
      ∙ map_same (value_in returned) (returned_value t gmo) (readers t) (λ r i.
      let h = sym (kept-has (reads t) t.count r) ∙ i in
      let l = ltb-true r t.count (and_l (ltb r t.count) (reads t r) h) in
      let reader = and_r (ltb r t.count) (reads t r) h in
      ap (λ (y : ℕ). y % 65536) (reads_in t f v o c given r l reader)
      ∙ mod-eq_of_lt (returned-narrow f v gmo o r l reader)) in
      let those : map (value_in at) (below locations) ≡ map (end_value t gmo) (below t.locations) =
      ap (λ (x : ℕ). map (value_in at) (below x)) e
      ∙ map_same (value_in at) (end_value t gmo) (below t.locations) (λ x i.
      let l = ltb-true x t.locations (sym (has-below t.locations x) ∙ i) in
      ap (λ (y : ℕ). y % 65536) (ends-in t f v o c given x l) ∙ mod-eq_of_lt (end-narrow f v gmo o x l)) in
      let many : n ≡ length (readers t) =
      sym (length-take-le n first (omega arith)) ∙ ap length these ∙ length-map (readers t) (returned_value t gmo) in (
        all_of ∙ ap₂ (λ (a b : List ℕ). a ++ b) these those,
        ap₂ (λ (x y : ℕ). x + y) many e,
      )

  -- where left has what each write leaves
  pub gives : (r : ℕ) (values : List ℕ) → Leaves facts gmo left → GivesBy facts left gmo mask locations r values →
      Gives facts gmo mask locations r values
  gives r values leaves by t f v o c = by t f v o c (leaves t f v o c)
