-- What every table and every list of bytes of the code has: each number is within its type.
use Rattle.std.specs.Prelude.{ℕ, ◌<◌, ◌^◌, ◌≡◌, List, [], ◌∷◌, length, get_or}
use Rattle.edition.specs.Limits.{max_locations}
use Rattle.table.specs.declared.Event.{Event}
use Rattle.table.specs.declared.Table.{Table}
use Rattle.table.specs.Events.{capacity, event}

-- each entry is a byte
abbrev pub Bytes : List ℕ → Type 0
Bytes [] = Unit {0}
Bytes (b ∷ s) = (b < 2 ^ 8) × Bytes s

-- u8 and u32 and u16, in the order of the fields
pub record EventFits (e : Event) : Type 0 where
  pub kind : e.kind < 2 ^ 8
  pub hart : e.hart < 2 ^ 8
  pub location : e.location.0 < 2 ^ 8
  pub flags : e.flags < 2 ^ 8
  pub addr : e.addr < 2 ^ 32
  pub «data» : e.«data» < 2 ^ 32
  pub ctrl : e.ctrl < 2 ^ 32
  pub read : e.read < 2 ^ 16
  pub written : e.written < 2 ^ 16
  pub operation : e.operation < 2 ^ 8
  pub operand : e.operand < 2 ^ 8

-- [u16; 8]
pub record ValuesFit (vs : List ℕ) : Type 0 where
  pub long : length vs ≡ max_locations
  pub each : (x : ℕ) → x < max_locations → get_or vs x 0 < 2 ^ 16

pub record TableFits (t : Table) : Type 0 where
  pub harts : t.harts < 2 ^ 8
  pub locations : t.locations < 2 ^ 8
  pub count : t.count < 2 ^ 8
  pub stated : t.stated < 2 ^ 8
  pub model : t.model < 2 ^ 8
  pub initial : ValuesFit t.initial
  pub long : length t.events ≡ capacity
  pub each : (k : ℕ) → k < capacity → EventFits (event t k)
  pub finals : ValuesFit t.finals
