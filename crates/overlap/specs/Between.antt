-- What rule 2 says of an event m strictly between a and b, as one test: what the loop over m looks for.
use Rattle.std.specs.Prelude.{ℕ, Bool, ◌&&◌}
use Rattle.table.specs.declared.Table.{Table}
use Rattle.table.specs.Events.{writes, same_location, between}

-- "writer to it strictly between"
unfoldable pub overwrites : Table → ℕ → ℕ → ℕ → Bool
overwrites t a b m = between t a m b && writes t m && same_location t m a
