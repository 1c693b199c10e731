-- "one event a line (its record fields .., in record order)": the event of a line's numbers.
use Rattle.std.specs.Prelude.{ℕ, List, get_or}
use Rattle.table.specs.declared.Event.{Event}

-- where each field stands in a line
abbrev pub kind_field : ℕ
kind_field = 0

abbrev pub hart_field : ℕ
hart_field = 1

abbrev pub location_field : ℕ
location_field = 2

abbrev pub flags_field : ℕ
flags_field = 3

abbrev pub addr_field : ℕ
addr_field = 4

abbrev pub data_field : ℕ
data_field = 5

abbrev pub ctrl_field : ℕ
ctrl_field = 6

abbrev pub read_field : ℕ
read_field = 7

abbrev pub written_field : ℕ
written_field = 8

abbrev pub operation_field : ℕ
operation_field = 9

abbrev pub operand_field : ℕ
operand_field = 10

unfoldable pub event_of : List ℕ → Event
event_of l = record {
  kind = get_or l kind_field 0;
  hart = get_or l hart_field 0;
  location = record { 0 = get_or l location_field 0 };
  flags = get_or l flags_field 0;
  addr = get_or l addr_field 0;
  «data» = get_or l data_field 0;
  ctrl = get_or l ctrl_field 0;
  read = get_or l read_field 0;
  written = get_or l written_field 0;
  operation = get_or l operation_field 0;
  operand = get_or l operand_field 0;
}
