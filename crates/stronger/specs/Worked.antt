-- Pairs of good tables worked by hand from the request. x and y are locations 0 and 1. Numbers are the paper's, and not names of
-- the definitions, which the cases are to hold.
use Rattle.std.specs.Prelude.{ℕ, ◌+◌, ◌≡◌, true, false, List, [], ◌∷◌}
use Rattle.table.specs.declared.Event.{Event}
use Rattle.table.specs.declared.Table.{Table}
use Rattle.model.specs.Claims.{x, y, loads, stores, swaps, reserved, fences, fences_tso, flagged, address_on, data_on, control_on, operated}
use Rattle.model.specs.Claims.{event0, event1, unannotated, acquire_rcpc, acquire_rcsc, release_rcpc, release_rcsc, valued, plain_test, in_model, Passes}
use Rattle.stronger.specs.Stronger.{stronger_annotations, stronger_flags, stronger_masks, same_access, same_values, stronger_event, same_header, same_test, stronger}

-- What is stated of a case: the second table is at least as strong as the first, or isn't.
pub data Claim : Type 0 where
  strengthens : (first second : Table) → Claim
  differs : (first second : Table) → Claim

abbrev pub Right : Claim → Type 0
Right (strengthens t u) = stronger t u ≡ true
Right (differs t u) = stronger t u ≡ false

-- both pass lines 5 to 11 and 21
abbrev pub Good : Claim → Type 0
Good (strengthens t u) = Passes t × Passes u
Good (differs t u) = Passes t × Passes u

abbrev pub Every : List Claim → Type 0
Every [] = Unit {0}
Every (c ∷ cs) = Good c × Right c × Every cs

-- the definitions that a case computes by, besides the model's
unfoldable pub computes : Unit {0}
unfolding stronger_annotations stronger_flags stronger_masks same_access same_values stronger_event same_header same_test stronger
computes = tt

-- "sets further fence bits": of the fence between a store and a load
abbrev fenced : ℕ → Table
fenced f = plain_test 1 2 (stores 0 x 1 ∷ fences 0 f ∷ loads 0 y 0 ∷ [])

abbrev pub fence_cases : List Claim
fence_cases =
    strengthens (fenced 0) (fenced 15)
    ∷ strengthens (fenced 1) (fenced 9)
    ∷ strengthens (fenced 15) (fenced 15)
    ∷ strengthens (in_model 1 (fenced 2)) (in_model 1 (fenced 6))
    ∷ differs (fenced 15) (fenced 7)
    ∷ differs (fenced 9) (fenced 1)
    -- another bit isn't a further one: a fence's bits are no annotations
    ∷ differs (fenced 1) (fenced 2)
    ∷ differs (fenced 4) (fenced 8)
    ∷ []

-- "annotations, or turns RCpc into RCsc": of a load, a store, an AMO
abbrev loading : ℕ → Table
loading f = plain_test 1 1 (flagged f (loads 0 x 0) ∷ [])

abbrev storing : ℕ → Table
storing f = plain_test 1 1 (flagged f (stores 0 x 1) ∷ [])

abbrev swapping : ℕ → Table
swapping f = plain_test 1 1 (flagged f (swaps 0 x 0 1) ∷ [])

abbrev pub annotation_cases : List Claim
annotation_cases =
    strengthens (loading unannotated) (loading acquire_rcpc)
    ∷ strengthens (loading unannotated) (loading acquire_rcsc)
    ∷ strengthens (loading acquire_rcpc) (loading acquire_rcsc)
    ∷ differs (loading acquire_rcpc) (loading unannotated)
    ∷ differs (loading acquire_rcsc) (loading unannotated)
    ∷ differs (loading acquire_rcsc) (loading acquire_rcpc)
    ∷ strengthens (storing unannotated) (storing release_rcpc)
    ∷ strengthens (storing unannotated) (storing release_rcsc)
    ∷ strengthens (storing release_rcpc) (storing release_rcsc)
    ∷ differs (storing release_rcpc) (storing unannotated)
    ∷ differs (storing release_rcsc) (storing unannotated)
    ∷ differs (storing release_rcsc) (storing release_rcpc)
    -- an acquire isn't a release
    ∷ strengthens (swapping acquire_rcpc) (swapping (acquire_rcsc + release_rcpc))
    ∷ differs (swapping acquire_rcpc) (swapping release_rcsc)
    ∷ differs (swapping release_rcpc) (swapping acquire_rcsc)
    ∷ differs (swapping (acquire_rcpc + release_rcsc)) (swapping (acquire_rcsc + release_rcpc))
    ∷ []

-- "dependency bits": of a store behind two loads
abbrev behind : Event → Table
behind e = plain_test 1 2 (loads 0 x 0 ∷ loads 0 y 0 ∷ e ∷ [])

abbrev plain : Event
plain = stores 0 y 1

abbrev pub dependency_cases : List Claim
dependency_cases =
    strengthens (behind plain) (behind (address_on event0 plain))
    ∷ strengthens (behind plain) (behind (data_on event0 plain))
    ∷ strengthens (behind plain) (behind (control_on event0 plain))
    ∷ strengthens (behind (address_on event0 plain)) (behind (address_on (event0 + event1) plain))
    ∷ strengthens (behind (address_on event0 plain)) (behind (data_on event1 (address_on event0 plain)))
    ∷ differs (behind (address_on event0 plain)) (behind plain)
    ∷ differs (behind (data_on event0 plain)) (behind plain)
    ∷ differs (behind (control_on event0 plain)) (behind plain)
    -- another bit, or the same bit of another mask, isn't a further one
    ∷ differs (behind (address_on event0 plain)) (behind (address_on event1 plain))
    ∷ differs (behind (address_on event0 plain)) (behind (data_on event0 plain))
    ∷ []

-- "differ only in that"
abbrev alone : Event → Table
alone e = plain_test 1 1 (e ∷ [])

abbrev both : Event → Event → Table
both d e = plain_test 2 2 (d ∷ e ∷ [])

-- an AMO that leaves 0 with this operation and operand
abbrev operating : (operation operand : ℕ) → Table
operating o n = alone (operated o n (swaps 0 x 0 0))

-- one load of x, with this mask of stated final values, initial value and final value
abbrev stating : (stated initial final : ℕ) → Table
stating s i f = valued 1 1 s (i ∷ []) (f ∷ []) (loads 0 x 0 ∷ [])

abbrev pub only_cases : List Claim
only_cases =
    -- an event: its kind, hart, location, values, operation and operand
    differs (plain_test 1 1 (fences 0 0 ∷ loads 0 x 0 ∷ [])) (plain_test 1 1 (fences_tso 0 ∷ loads 0 x 0 ∷ []))
    ∷ differs (alone (loads 0 x 0)) (alone (reserved 0 x 0))
    ∷ differs (both (loads 0 x 0) (loads 0 y 0)) (both (loads 0 x 0) (loads 1 y 0))
    ∷ differs (both (loads 0 x 0) (loads 0 y 0)) (both (loads 0 y 0) (loads 0 x 0))
    ∷ differs (alone (loads 0 x 0)) (alone (loads 0 x 1))
    ∷ differs (alone (stores 0 x 0)) (alone (stores 0 x 1))
    ∷ differs (operating 0 0) (operating 2 0)
    ∷ differs (operating 2 0) (operating 2 1)
    -- a second event
    ∷ differs (alone (loads 0 x 0)) (plain_test 1 1 (loads 0 x 0 ∷ fences 0 15 ∷ []))
    -- a table: its harts, model, stated final values, initial and final values
    ∷ differs (plain_test 1 1 (loads 0 x 0 ∷ [])) (plain_test 2 1 (loads 0 x 0 ∷ []))
    ∷ differs (alone (loads 0 x 0)) (in_model 1 (alone (loads 0 x 0)))
    ∷ differs (stating 0 0 0) (stating 1 0 0)
    ∷ differs (stating 0 0 0) (stating 0 1 0)
    ∷ differs (stating 1 0 0) (stating 1 0 1)
    ∷ []
