-- A text's table as a block's: each of lines 5 to 11 holds of the one where it holds of the other.
use Rattle.std.specs.Prelude.{ℕ, ◌≡◌, Bool, cond, ◌||◌, ltb}
use Rattle.operation.specs.Operation.{no_operation}
use Rattle.table.specs.declared.Event.{Event}
use Rattle.table.specs.declared.Table.{Table}
use Rattle.table.specs.Events.{event}
use Rattle.refusals.specs.TableLines.{shape_wrong, value_stated}

-- a record without its operation, and of kind 0, which none may have, if it is refused
abbrev pub bare : (refused : Bool) → Event → Event
bare refused e =
    record {
      kind = cond refused 0 e.kind;
      hart = e.hart;
      location = e.location;
      flags = e.flags;
      addr = e.addr;
      «data» = e.«data»;
      ctrl = e.ctrl;
      read = e.read;
      written = e.written;
      operation = no_operation;
      operand = 0;
    }

-- it is refused if line 7 of a text holds of it; no later line asks for its operation
unfoldable pub as_block : (harts locations : ℕ) → Event → Event
as_block harts locations e = bare (shape_wrong harts locations e || value_stated e) e

-- u is the table t with its records so
pub record AsBlock (t u : Table) : Type 0 where
  pub harts : u.harts ≡ t.harts
  pub locations : u.locations ≡ t.locations
  pub count : u.count ≡ t.count
  pub stated : u.stated ≡ t.stated
  pub model : u.model ≡ t.model
  pub initial : u.initial ≡ t.initial
  pub finals : u.finals ≡ t.finals
  pub events : (k : ℕ) → event u k ≡ cond (ltb k t.count) (as_block t.harts t.locations (event t k)) (event t k)
