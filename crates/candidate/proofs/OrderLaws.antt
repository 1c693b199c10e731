-- Line 13 as the code tests it.
use Prim.Native.Nat.{ℕ}
use mathlib.Core.Path.{◌≡◌}
use mathlib.Core.Bool.{◌&&◌, ◌||◌, not}
use mathlib.Core.List.{List}
use lib.Dec.{eqb}
use Rattle.lists.specs.Below.{some}
use Rattle.lists.specs.Lists.{all, count}
use Rattle.lists.proofs.BoolLaws.{not-both}
use Rattle.lists.proofs.TakeLaws.{all-kept}
use Rattle.table.specs.declared.Table.{Table}
use Rattle.table.specs.Events.{memory, memory_events}
use Rattle.model.specs.Witness.{is_memory_event, is_order}
use Rattle.candidate.specs.CandidateLines.{order_wrong}

-- some entry is no memory event, or some memory event isn't there once
pub order-wrong : (t : Table) (gmo : List ℕ) →
    (not (all (is_memory_event t) gmo) || some t.count (λ e. memory t e && not (eqb (count e gmo) 1))) ≡ order_wrong t gmo
unfolding order_wrong is_order memory_events
order-wrong t gmo =
    rw (all-kept (λ e. eqb (count e gmo) 1) (memory t) t.count)
    (not-both (all (is_memory_event t) gmo) (some t.count (λ e. memory t e && not (eqb (count e gmo) 1))))
