-- The locations that memory events touch, as a mask.
use Rattle.std.specs.Prelude.{ℕ, ◌<◌, ◌≡◌, ◌&&◌, eqb}
use Rattle.lists.specs.Below.{some}
use Rattle.masks.specs.Bit.{bit}
use Rattle.table.specs.declared.Table.{Table}
use Rattle.table.specs.Events.{location, memory}

-- the mask of all locations
abbrev pub every_location : ℕ
every_location = 255

-- the location of each event is in the test
abbrev pub InTest : Table → Type 0
InTest t = (k : ℕ) → k < t.count → location t k < t.locations

-- the mask of the locations that the first n events touch
abbrev pub Touches : Table → ℕ → ℕ → Type 0
Touches t n mask = (x : ℕ) → bit mask x ≡ some n (λ e. memory t e && eqb (location t e) x)
