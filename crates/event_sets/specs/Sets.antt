-- The sets of a table's events, as masks: bit k stands for event k.
use Rattle.std.specs.Prelude.{ℕ, Bool, ◌||◌, eqb}
use Rattle.lists.specs.Below.{below}
use Rattle.lists.specs.Lists.{keep}
use Rattle.lists.specs.Filled.{up_to}
use Rattle.masks.specs.MaskOf.{mask_of}
use Rattle.edition.specs.Limits.{max_harts, max_locations}
use Rattle.table.specs.declared.Table.{Table}
use Rattle.table.specs.Events.{kind, hart, location, reads, writes, lr, sc}
use Rattle.table.specs.Annotations.{acquire, release, rcsc}
use Rattle.event_sets.specs.declared.Sets.{Sets}

-- the set of the events that pass
abbrev pub set_of : Table → (ℕ → Bool) → ℕ
set_of t p = mask_of (keep p (below t.count))

-- the events of hart h, those of location x
abbrev pub hart_set : Table → ℕ → ℕ
hart_set t h = set_of t (λ e. eqb (hart t e) h)

abbrev pub location_set : Table → ℕ → ℕ
location_set t x = set_of t (λ e. eqb (location t e) x)

unfoldable pub sets_of : Table → Sets
sets_of t =
    record {
      readers = set_of t (reads t);
      writers = set_of t (writes t);
      acquires = set_of t (acquire t);
      releases = set_of t (release t);
      rcscs = set_of t (rcsc t);
      reserving = set_of t (λ e. eqb (kind t e) lr || eqb (kind t e) sc);
      harts = up_to max_harts (hart_set t);
      locations = up_to max_locations (location_set t);
    }
