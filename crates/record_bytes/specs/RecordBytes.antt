-- "Record": the 16 bytes of an event, a definition for each part of the layout, in the paper's order.
use Rattle.std.specs.Prelude.{ℕ, ◌/◌, ◌%◌, List, [], ◌∷◌, ◌++◌}
use Rattle.table.specs.declared.Event.{Event}

-- "little endian": a number of two bytes, the low one first
abbrev pub two : ℕ → List ℕ
two n = n % 256 ∷ n / 256 % 256 ∷ []

-- "Record: 0 kind, 1 hart, 2 location, 3 flags, .."
abbrev pub code_bytes : Event → List ℕ
code_bytes e = e.kind ∷ e.hart ∷ e.location.0 ∷ e.flags ∷ []

-- ".. 4..5 address mask, 6..7 data mask, 8..9 control mask, .."
abbrev pub mask_bytes : Event → List ℕ
mask_bytes e = two e.addr ++ two e.«data» ++ two e.ctrl

-- ".. 10..11 value read, .."
abbrev pub read_bytes : Event → List ℕ
read_bytes e = two e.read

-- ".. 12..13 value written, .."
abbrev pub written_bytes : Event → List ℕ
written_bytes e = two e.written

-- "bytes 14 and 15 become an operation and an operand"
abbrev pub operation_bytes : Event → List ℕ
operation_bytes e = e.operation ∷ e.operand ∷ []

-- the record of an event
unfoldable pub record_bytes : Event → List ℕ
record_bytes e = code_bytes e ++ mask_bytes e ++ read_bytes e ++ written_bytes e ++ operation_bytes e
