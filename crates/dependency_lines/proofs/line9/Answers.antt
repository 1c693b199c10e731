use Rattle.table.specs.Events.{writes, kind, event}
use Rattle.refusals.specs.TableLines.{line9, data_of_non_writer}
use mathlib.Core.Path.{refl, ap, ap₂}
use mathlib.Core.Bool.{◌&&◌, ◌||◌, not}
use Rattle.dependency_lines.proofs.line9.Goals as goal

pub returns : goal.returns
unfolding line9 data_of_non_writer writes kind event
returns c = rw c.from.ensures
    (ap₂ ◌||◌ (ap₂ ◌||◌ c.some_names_wrongly.ensures (ap₂ ◌&&◌ (ap not (rw c.from.ensures at c.writes.ensures)) refl)) c.some_lacks_control.ensures)
