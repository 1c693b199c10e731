-- What the rows are made from, of a table and its sets of events.
use Rattle.std.specs.Prelude.{ℕ, List, get_or}
use Rattle.lists.specs.Filled.{padded}
use Rattle.table.specs.declared.Event.{Event}
use Rattle.table.specs.declared.Table.{Table}
use Rattle.table.specs.Events.{capacity, event}
use Rattle.fact_rows.specs.declared.Around.{Around}
use Rattle.event_sets.specs.declared.Sets.{Sets}

-- an event with the sets of the readers, the writers, those at its location and those of its hart
abbrev pub around_of : Sets → ℕ → ℕ → Event → Around
around_of s count number e =
    record {
      count = count;
      number = number;
      event = e;
      readers = s.readers;
      writers = s.writers;
      place = get_or s.locations e.location.0 0;
      hart = get_or s.harts e.hart 0;
    }

-- the value that each event states
abbrev pub stated_values : Table → List ℕ
stated_values t = padded capacity t.count (λ e. (event t e).read)
