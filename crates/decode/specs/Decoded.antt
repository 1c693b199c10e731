-- "The block": the table that a test's bytes stand for, whatever they are. "Editions 1 and 2 give one kind of table."
use Rattle.std.specs.Prelude.{ℕ, ◌+◌, Bool, true, false, List, ltb}
use Rattle.lists.specs.Filled.{up_to}
use Rattle.edition.specs.Limits.{Edition, one, two, most_events, max_locations}
use Rattle.table.specs.declared.LocationNo.{LocationNo}
use Rattle.table.specs.declared.Event.{Event}
use Rattle.table.specs.declared.Table.{Table}
use Rattle.table.specs.Events.{no_event, capacity}
use Rattle.decode.specs.Layout.{byte_at, word_at, long_at, harts_at, locations_at, events_at, stated_at, model_at, initial_at, record_at, wide_record_at, final_at, edition_of}

-- "Record: 0 kind, 1 hart, 2 location, 3 flags, 4..5 address mask, 6..7 data mask, 8..9 control mask, 10..11 value read,
-- 12..13 value written", "bytes 14 and 15 become an operation and an operand"
abbrev pub record_from : List ℕ → ℕ → Event
record_from s at =
    record {
      kind = byte_at s at;
      hart = byte_at s (at + 1);
      location = record { 0 = byte_at s (at + 2) };
      flags = byte_at s (at + 3);
      addr = word_at s (at + 4);
      «data» = word_at s (at + 6);
      ctrl = word_at s (at + 8);
      read = word_at s (at + 10);
      written = word_at s (at + 12);
      operation = byte_at s (at + 14);
      operand = byte_at s (at + 15);
    }

-- edition 2: "A record: 0 kind, 1 hart, 2 location, 3 flags, 4..7 address mask, 8..11 data mask, 12..15 control mask, 16..17 value
-- read, 18..19 value written, 20 operation, 21 operand"
abbrev pub wide_record_from : List ℕ → ℕ → Event
wide_record_from s at =
    record {
      kind = byte_at s at;
      hart = byte_at s (at + 1);
      location = record { 0 = byte_at s (at + 2) };
      flags = byte_at s (at + 3);
      addr = long_at s (at + 4);
      «data» = long_at s (at + 8);
      ctrl = long_at s (at + 12);
      read = word_at s (at + 16);
      written = word_at s (at + 18);
      operation = byte_at s (at + 20);
      operand = byte_at s (at + 21);
    }

-- record k
abbrev pub record_of : Edition → List ℕ → ℕ → Event
record_of one s k = record_from s (record_at k)
record_of two s k = wide_record_from s (wide_record_at k)

abbrev pub pick_event : Bool → Event → Event → Event
pick_event true a b = a
pick_event false a b = b

-- slot k of the table: record k, or a blank past the edition's records
unfoldable pub event_at : Edition → List ℕ → ℕ → Event
event_at e s k = pick_event (ltb k (most_events e)) (record_of e s k) no_event

unfoldable pub initial_of : List ℕ → ℕ → ℕ
initial_of s x = word_at s (initial_at x)

unfoldable pub final_of : List ℕ → ℕ → ℕ
final_of s x = word_at s (final_at x)

-- the header block's fields, with these events
unfoldable pub headed : List ℕ → List Event → Table
headed s events =
    record {
      harts = byte_at s harts_at;
      locations = byte_at s locations_at;
      count = byte_at s events_at;
      stated = byte_at s stated_at;
      model = byte_at s model_at;
      initial = up_to max_locations (initial_of s);
      events = events;
      finals = up_to max_locations (final_of s);
    }

-- the table, read by an edition's layout
unfoldable pub decoded_as : Edition → List ℕ → Table
decoded_as e s = headed s (up_to capacity (event_at e s))

-- the table, read by the edition that the bytes state
unfoldable pub decoded : List ℕ → Table
decoded s = decoded_as (edition_of s) s
