-- What the loop for a location's last write looks for.
use Rattle.std.specs.Prelude.{ℕ, Bool, ◌&&◌, eqb}
use Rattle.table.specs.declared.Table.{Table}
use Rattle.table.specs.Events.{writes, location}

-- w writes to location x
unfoldable pub writes_to : Table → ℕ → ℕ → Bool
writes_to t x w = writes t w && eqb (location t w) x
