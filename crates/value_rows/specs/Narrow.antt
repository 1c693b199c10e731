-- What the types of the fields say of a table that was handed over.
use Rattle.std.specs.Prelude.{ℕ, ◌^◌, ◌<◌}
use Rattle.table.specs.declared.Table.{Table}
use Rattle.table.specs.Events.{event}
use Rattle.model.specs.Returns.{initial_value}

-- values are below 65,536, operations and operands are bytes
abbrev pub NarrowWritten : Table → Type 0
NarrowWritten t = (e : ℕ) → e < t.count → (event t e).written < 2 ^ 16

abbrev pub NarrowActions : Table → Type 0
NarrowActions t = (e : ℕ) → e < t.count → ((event t e).operation < 2 ^ 8) × ((event t e).operand < 2 ^ 8)

abbrev pub NarrowInitial : Table → Type 0
NarrowInitial t = (x : ℕ) → x < t.locations → initial_value t x < 2 ^ 16
