-- Past a table's slots no event can be seen.
use Prim.Native.Nat.{ℕ, ◌≤◌}
use mathlib.Core.Path.{◌≡◌, ap}
use mathlib.Core.Bool.{false}
use mathlib.Core.List.{List}
use lib.ListN.{length, get_or-eq_default}
use Rattle.table.specs.declared.Event.{Event}
use Rattle.table.specs.declared.Table.{Table}
use Rattle.table.specs.Events.{event, kind, writes, no_event, writing_kind}
use Rattle.model.specs.Returns.{visible}

pub past-slots : (t : Table) (gmo : List ℕ) (r w : ℕ) → length t.events ≤ w → visible t gmo r w ≡ false
unfolding visible writes kind event
past-slots t gmo r w h = rw (ap (λ (e : Event). writing_kind e.kind) (get_or-eq_default t.events no_event {n = w} h))
