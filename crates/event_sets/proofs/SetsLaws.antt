-- What a set of a table's events has, and where the sets of a hart and of a location stand.
use Prim.Native.Nat.{ℕ, ◌<◌}
use mathlib.Core.Path.{◌≡◌, ap, ◌∙◌}
use mathlib.Core.Bool.{Bool}
use lib.ListN.{get_or}
use Rattle.lists.proofs.FilledLaws.{get_or-up_to}
use Rattle.masks.specs.Bit.{bit}
use Rattle.masks.proofs.SetLaws.{marks-set}
use Rattle.edition.specs.Limits.{max_harts, max_locations}
use Rattle.table.specs.declared.Table.{Table}
use Rattle.event_sets.specs.declared.Sets.{Sets}
use Rattle.event_sets.specs.Sets.{set_of, hart_set, location_set, sets_of}

module _ (t : Table) where
  -- an event is in the set where it passes
  pub set-has : (f : ℕ → Bool) (m k : ℕ) → m ≡ set_of t f → k < t.count → bit m k ≡ f k
  set-has f m k e l = ap (λ (x : ℕ). bit x k) e ∙ (marks-set t.count f).each k l

  module _ (s : Sets) (e : s ≡ sets_of t) where
    pub hart-at : (h : ℕ) → h < max_harts → get_or s.harts h 0 ≡ hart_set t h
    unfolding sets_of
    hart-at h l = ap (λ (x : Sets). get_or x.harts h 0) e ∙ get_or-up_to max_harts (hart_set t) h 0 l

    pub location-at : (x : ℕ) → x < max_locations → get_or s.locations x 0 ≡ location_set t x
    unfolding sets_of
    location-at x l = ap (λ (y : Sets). get_or y.locations x 0) e ∙ get_or-up_to max_locations (location_set t) x 0 l
