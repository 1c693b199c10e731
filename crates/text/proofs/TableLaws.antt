-- The table made of the slots, and of the counts and the largest fields.
use Prim.Native.Nat.{ℕ, max, ◌<◌}
use mathlib.Core.Path.{◌≡◌, refl, ap, subst, ◌∙◌}
use mathlib.Core.Bool.{true, ◌||◌}
use mathlib.Core.Logic.{⊎_elim}
use mathlib.Core.List.{List, map}
use lib.ListN.{take, replicate}
use lib.Dec.{ltb}
use borrow.Author.Tests.{ltb-true}
use Rattle.lists.proofs.BoolLaws.{or_cases}
use Rattle.edition.specs.Limits.{two, most_events, max_harts, max_locations}
use Rattle.table.specs.declared.Event.{Event}
use Rattle.table.specs.declared.Table.{Table}
use Rattle.table.specs.Annotations.{rvwmo}
use Rattle.table.proofs.SameFields.{table_same}
use Rattle.refusals.specs.TableLines.{line5}
use Rattle.text.specs.Texts.{covering}
use Rattle.text.specs.Judged.{table_from}
use Rattle.text.proofs.JudgeLaws.{events-over, locations-over, harts-over}

module _ (events : List Event) (count : ℕ) (initial : List ℕ) (given : ℕ) where
  abbrev t : Table
  t = table_from events count initial given

  pub count-over : most_events two < count → line5 (most_events two) t ≡ true
  unfolding table_from
  count-over h = events-over t h

  module _ (harts locations fields : ℕ) (e : harts ≡ covering (map (λ e. e.hart) (take count events)))
      (f : locations ≡ max given fields) (g : fields ≡ covering (map (λ e. e.location.0) (take count events))) where
    all-locations : locations ≡ max given (covering (map (λ e. e.location.0) (take count events)))
    all-locations = f ∙ ap (max given) g

    pub fields-over : (ltb max_harts harts || ltb max_locations locations) ≡ true → line5 (most_events two) t ≡ true
    unfolding table_from
    fields-over h =
        ⊎_elim (λ a. harts-over t (subst (λ (n : ℕ). max_harts < n) e (ltb-true max_harts harts a)))
        (λ a. locations-over t (subst (λ (n : ℕ). max_locations < n) all-locations (ltb-true max_locations locations a)))
        (or_cases (ltb max_harts harts) (ltb max_locations locations) h)

    pub table-made : record {
      harts = harts;
      locations = locations;
      count = count;
      stated = 0;
      model = rvwmo;
      initial = initial;
      events = events;
      finals = replicate max_locations 0;
    } ≡ t
    unfolding table_from
    table-made = table_same _ t e all-locations refl refl refl refl refl refl
