-- What a table's slots have: each event within its types.
use Rattle.std.specs.Prelude.{ℕ, ◌<◌, ◌≡◌, List, length, get_or}
use Rattle.table.specs.declared.Event.{Event}
use Rattle.table.specs.Events.{capacity, no_event}
use Rattle.writer.specs.Fits.{EventFits}

pub record EventsFit (es : List Event) : Type 0 where
  pub long : length es ≡ capacity
  pub each : (k : ℕ) → k < capacity → EventFits (get_or es k no_event)
