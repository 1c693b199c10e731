-- What rules 12 and 13 say of an event m strictly between a and b, each as one test: what the loops over m look for.
use Rattle.std.specs.Prelude.{ℕ, Bool, ◌&&◌, ◌||◌, eqb}
use Rattle.table.specs.declared.Table.{Table}
use Rattle.table.specs.Events.{writes, memory, between}
use Rattle.table.specs.Annotations.{address_depends, data_depends}

-- rule 12: "a writer m strictly between, whose address or data depends on a", which is w
unfoldable pub forwards : Table → ℕ → ℕ → ℕ → ℕ → Bool
forwards t w a b m = between t a m b && writes t m && eqb w m && (address_depends t m a || data_depends t m a)

-- rule 13: "some m strictly between has an address dependency on a"
unfoldable pub addresses : Table → ℕ → ℕ → ℕ → Bool
addresses t a b m = between t a m b && memory t m && address_depends t m a
