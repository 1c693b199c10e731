-- What masks of a table's events, and all that is made of them, ask of the table.
use Rattle.std.specs.Prelude.{ℕ, ◌≤◌, ◌<◌}
use Rattle.edition.specs.Limits.{max_harts, max_locations}
use Rattle.table.specs.declared.Table.{Table}
use Rattle.table.specs.Events.{capacity, hart, location}

-- the counts of a table that was read, and each event's hart and location; one slot at least is left, whose bit stands for no event
pub record Small (t : Table) : Type 0 where
  pub events : t.count < capacity
  pub locations : t.locations ≤ max_locations
  pub each-hart : (k : ℕ) → k < t.count → hart t k < max_harts
  pub each-location : (k : ℕ) → k < t.count → location t k < max_locations
