-- What rule 4 says of an event m strictly between a and b, as one test: what the loop over m looks for.
use Rattle.std.specs.Prelude.{ℕ, Bool, ◌&&◌, ◌||◌}
use Rattle.table.specs.declared.Table.{Table}
use Rattle.table.specs.Events.{between}
use Rattle.model.specs.Rules.{fence_orders, tso_orders}

-- "A fence between"
unfoldable pub separates : Table → ℕ → ℕ → ℕ → Bool
separates t a b m = between t a m b && (fence_orders t a m b || tso_orders t a m b)
