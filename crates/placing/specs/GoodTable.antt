-- What is used of a table where an order is told entry by entry: what lines 5, 7, 9 and 10 leave.
use Rattle.std.specs.Prelude.{ℕ, ◌<◌, ◌≡◌, true}
use Rattle.table.specs.declared.Table.{Table}
use Rattle.table.specs.Events.{location, memory, same_location, po, paired}
use Rattle.table.specs.Counts.{Small}
use Rattle.placing.specs.Guards.{depends}

pub record GoodTable (t : Table) : Type 0 where
  -- events and locations are in range
  pub small : Small t
  -- every location is one of the test's
  pub located : (e : ℕ) → e < t.count → location t e < t.locations
  -- address and data masks name earlier memory events of the hart
  pub named : (b a : ℕ) → b < t.count → a < t.count → depends t b a ≡ true → (po t a b ≡ true) × (memory t a ≡ true)
  -- an LR is to its SC's location
  pub pairs : (l s : ℕ) → l < t.count → s < t.count → paired t l s ≡ true → same_location t l s ≡ true
