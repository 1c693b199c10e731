-- Runs worked by hand from the request. x and y are locations 0 and 1. A step is the hart to issue, or the hart plus 4 to drain: with
-- two harts 0 and 1 issue, 4 and 5 drain. Numbers are the paper's, and not names of the definitions, which the cases are to hold.
use Rattle.std.specs.Prelude.{ℕ, ◌≡◌, Bool, true, false, ◌&&◌, List, [], ◌∷◌}
use Rattle.table.specs.declared.Event.{Event}
use Rattle.table.specs.declared.Table.{Table}
use Rattle.model.specs.Witness.{lawful}
use Rattle.model.specs.Claims.{x, y, loads, stores, swaps, reserved, conditional, fences, full_fence, address_on, data_on, control_on, event1, plain_test, in_model, nothing, initially, Passes}
use Rattle.placing.specs.Guards.{depends}
use Rattle.machine.specs.Machine.{start, next, buffered, oldest, waits, forwards, newest, unsure, may_issue, returned, may_drain, enter, perform, drain, event_of, accepts, stepped, is_run, after, entry_of, line24, complete}
use Rattle.machine.specs.Statements.{state, buffer}

-- a test of model 1; its locations are x, or x and y
abbrev at_x : (harts : ℕ) → List Event → Table
at_x h es = in_model 1 (plain_test h 1 es)

abbrev at_xy : (harts : ℕ) → List Event → Table
at_xy h es = in_model 1 (plain_test h 2 es)

-- What is stated of a case.
pub data Claim : Type 0 where
  -- behind a run the step answers its event and what a returned list holds for it
  answers : Table → (steps : List ℕ) → (step event entry : ℕ) → Claim
  -- refusal 24
  refuses : Table → (steps : List ℕ) → (step : ℕ) → Claim
  -- a complete run, with its order and its returned list
  completes : Table → (steps gmo rf : List ℕ) → Claim
  -- a run that isn't complete
  leaves : Table → (steps : List ℕ) → Claim
  -- behind a run hart h's buffer holds these, oldest first
  holds : Table → (steps : List ℕ) → (h : ℕ) → List ℕ → Claim
  -- an order is lawful, or not: what the runs stand beside
  weighs : Table → (gmo : List ℕ) → Bool → Claim

abbrev pub Right : Claim → Type 0
Right (answers t bs b e n) =
    (line24 t bs b ≡ false) × (◌≡◌ {A = List ℕ} (event_of t (state t bs) b ∷ entry_of t (state t bs) b ∷ []) (e ∷ n ∷ []))
Right (refuses t bs b) = line24 t bs b ≡ true
Right (completes t bs gmo rf) =
    ((is_run t (start t) bs && complete t (state t bs)) ≡ true)
    × (◌≡◌ {A = List (List ℕ)} ((state t bs).gmo ∷ (state t bs).rf ∷ []) (gmo ∷ rf ∷ []))
Right (leaves t bs) = (is_run t (start t) bs ≡ true) × (complete t (state t bs) ≡ false)
Right (holds t bs h es) = (is_run t (start t) bs ≡ true) × (buffer t (state t bs) h ≡ es)
Right (weighs t gmo b) = lawful t gmo ≡ b

-- the table of a case
abbrev pub table_of : Claim → Table
table_of (answers t bs b e n) = t
table_of (refuses t bs b) = t
table_of (completes t bs gmo rf) = t
table_of (leaves t bs) = t
table_of (holds t bs h es) = t
table_of (weighs t gmo b) = t

-- it passes lines 5 to 11
abbrev pub Every : List Claim → Type 0
Every [] = Unit {0}
Every (c ∷ cs) = Passes (table_of c) × Right c × Every cs

-- the definitions that a case computes by, besides the model's
unfoldable pub computes : Unit {0}
unfolding depends start next buffered oldest waits forwards newest unsure may_issue returned may_drain enter perform drain event_of accepts stepped is_run after entry_of line24 complete buffer
computes = tt

-- "a hart issues its next event, or drains its oldest buffered store. Plain stores and SCs enter the hart's buffer."
abbrev two_stores : Table
two_stores = at_xy 1 (stores 0 x 1 ∷ stores 0 y 1 ∷ [])

abbrev two_harts : Table
two_harts = at_xy 2 (stores 0 x 1 ∷ stores 1 y 1 ∷ loads 0 y 0 ∷ loads 1 x 0 ∷ [])

abbrev pub step_cases : List Claim
step_cases =
    -- both issue in program order, and drain in the order of their issue
    answers two_stores [] 0 0 nothing
    ∷ answers two_stores (0 ∷ []) 0 1 nothing
    ∷ holds two_stores (0 ∷ 0 ∷ []) 0 (0 ∷ 1 ∷ [])
    ∷ answers two_stores (0 ∷ 0 ∷ []) 4 0 nothing
    ∷ holds two_stores (0 ∷ 0 ∷ 4 ∷ []) 0 (1 ∷ [])
    ∷ answers two_stores (0 ∷ 0 ∷ 4 ∷ []) 4 1 nothing
    ∷ completes two_stores (0 ∷ 0 ∷ 4 ∷ 4 ∷ []) (0 ∷ 1 ∷ []) (nothing ∷ nothing ∷ [])
    ∷ completes two_stores (0 ∷ 4 ∷ 0 ∷ 4 ∷ []) (0 ∷ 1 ∷ []) (nothing ∷ nothing ∷ [])
    ∷ weighs two_stores (1 ∷ 0 ∷ []) false
    -- nothing is left to issue, or to drain; there is no such hart, and no such step
    ∷ refuses two_stores (0 ∷ 0 ∷ []) 0
    ∷ refuses two_stores [] 4
    ∷ refuses two_stores (0 ∷ 4 ∷ []) 4
    ∷ refuses two_stores [] 1
    ∷ refuses two_stores (0 ∷ []) 5
    ∷ refuses two_stores (0 ∷ []) 8
    ∷ refuses two_stores (0 ∷ 0 ∷ 4 ∷ 4 ∷ []) 0
    -- a list that isn't a run, though the step could be taken behind what is left of it
    ∷ refuses two_stores (4 ∷ []) 0
    ∷ refuses two_stores (0 ∷ 5 ∷ []) 0
    -- each hart has its own next event and its own buffer: both loads may pass both stores
    ∷ answers two_harts (0 ∷ []) 1 1 nothing
    ∷ answers two_harts (0 ∷ 1 ∷ []) 5 1 nothing
    ∷ holds two_harts (0 ∷ 1 ∷ []) 0 (0 ∷ [])
    ∷ holds two_harts (0 ∷ 1 ∷ []) 1 (1 ∷ [])
    ∷ completes two_harts (0 ∷ 1 ∷ 0 ∷ 1 ∷ 5 ∷ 4 ∷ []) (2 ∷ 3 ∷ 1 ∷ 0 ∷ []) (nothing ∷ nothing ∷ initially ∷ initially ∷ [])
    -- the same table of model 0
    ∷ refuses (in_model 0 two_harts) [] 0
    ∷ []

-- "A reader issues only if no store in its hart's buffer precedes it by a steady rule"
abbrev store_amo : Table
store_amo = at_xy 1 (stores 0 x 1 ∷ swaps 0 y 0 1 ∷ [])

-- a store, a fence with these bits, a load of the other location
abbrev fenced : ℕ → Table
fenced f = at_xy 1 (stores 0 x 1 ∷ fences 0 f ∷ loads 0 y 0 ∷ [])

abbrev dependent_load : Table
dependent_load = at_xy 1 (reserved 0 x 0 ∷ conditional 0 x 1 ∷ address_on event1 (loads 0 y 0) ∷ [])

abbrev pub steady_cases : List Claim
steady_cases =
    -- an AMO's own annotation is the model's: rule 6
    refuses store_amo (0 ∷ []) 0
    ∷ completes store_amo (0 ∷ 4 ∷ 0 ∷ []) (0 ∷ 1 ∷ []) (nothing ∷ initially ∷ [])
    ∷ weighs store_amo (1 ∷ 0 ∷ []) false
    -- rule 4: a fence that orders the store before the load, and fences that don't
    ∷ refuses (fenced 15) (0 ∷ 0 ∷ []) 0
    ∷ completes (fenced 15) (0 ∷ 0 ∷ 4 ∷ 0 ∷ []) (0 ∷ 2 ∷ []) (nothing ∷ nothing ∷ initially ∷ [])
    ∷ completes (fenced 0) (0 ∷ 0 ∷ 0 ∷ 4 ∷ []) (2 ∷ 0 ∷ []) (nothing ∷ nothing ∷ initially ∷ [])
    ∷ completes (fenced 8) (0 ∷ 0 ∷ 0 ∷ 4 ∷ []) (2 ∷ 0 ∷ []) (nothing ∷ nothing ∷ initially ∷ [])
    -- "Fences just pass": with a store or an SC in the buffer; and a run is complete when they have
    ∷ answers (fenced 15) (0 ∷ []) 0 1 nothing
    ∷ answers (at_x 1 (reserved 0 x 0 ∷ conditional 0 x 1 ∷ full_fence 0 ∷ [])) (0 ∷ 0 ∷ []) 0 2 nothing
    ∷ leaves (at_x 1 (stores 0 x 1 ∷ full_fence 0 ∷ [])) (0 ∷ 4 ∷ [])
    ∷ completes (at_x 1 (stores 0 x 1 ∷ full_fence 0 ∷ [])) (0 ∷ 4 ∷ 0 ∷ []) (0 ∷ []) (nothing ∷ nothing ∷ [])
    -- rule 9
    ∷ refuses dependent_load (0 ∷ 0 ∷ []) 0
    ∷ []

-- "and the newest buffered store to its location neither is an SC nor has an address or data dependency on a buffered SC"
abbrev then_load : Event → Table
then_load e = at_xy 1 (reserved 0 x 0 ∷ conditional 0 x 1 ∷ e ∷ loads 0 y 0 ∷ [])

abbrev of_data : Table
of_data = then_load (data_on event1 (stores 0 y 1))

abbrev of_address : Table
of_address = then_load (address_on event1 (stores 0 y 1))

abbrev of_control : Table
of_control =
    at_xy 1 (reserved 0 x 0 ∷ conditional 0 x 1 ∷ control_on event1 (stores 0 y 1) ∷ control_on event1 (loads 0 y 0) ∷ [])

abbrev sc_load : ℕ → Table
sc_load l = at_xy 1 (reserved 0 x 0 ∷ conditional 0 x 1 ∷ loads 0 l 0 ∷ stores 0 y 1 ∷ [])

abbrev pub forward_cases : List Claim
forward_cases =
    -- the SC's own location, and another
    refuses (sc_load x) (0 ∷ 0 ∷ []) 0
    ∷ completes (sc_load x) (0 ∷ 0 ∷ 4 ∷ 0 ∷ 0 ∷ 4 ∷ []) (0 ∷ 1 ∷ 2 ∷ 3 ∷ []) (initially ∷ nothing ∷ 1 ∷ nothing ∷ [])
    ∷ weighs (sc_load x) (0 ∷ 2 ∷ 1 ∷ 3 ∷ []) false
    ∷ completes (sc_load y) (0 ∷ 0 ∷ 0 ∷ 0 ∷ 4 ∷ 4 ∷ []) (0 ∷ 2 ∷ 1 ∷ 3 ∷ []) (initially ∷ nothing ∷ initially ∷ nothing ∷ [])
    -- a store that depends on the SC, while that is buffered
    ∷ refuses of_data (0 ∷ 0 ∷ 0 ∷ []) 0
    ∷ refuses of_address (0 ∷ 0 ∷ 0 ∷ []) 0
    ∷ weighs of_data (0 ∷ 3 ∷ 1 ∷ 2 ∷ []) false
    ∷ completes of_data (0 ∷ 0 ∷ 0 ∷ 4 ∷ 0 ∷ 4 ∷ []) (0 ∷ 1 ∷ 3 ∷ 2 ∷ []) (initially ∷ nothing ∷ nothing ∷ 2 ∷ [])
    ∷ completes of_address (0 ∷ 0 ∷ 4 ∷ 0 ∷ 0 ∷ 4 ∷ []) (0 ∷ 1 ∷ 3 ∷ 2 ∷ []) (initially ∷ nothing ∷ nothing ∷ 2 ∷ [])
    -- a control dependency holds nothing back
    ∷ completes of_control (0 ∷ 0 ∷ 0 ∷ 0 ∷ 4 ∷ 4 ∷ []) (0 ∷ 3 ∷ 1 ∷ 2 ∷ []) (initially ∷ nothing ∷ nothing ∷ 2 ∷ [])
    -- only the newest counts: a plain store behind an SC, and an SC behind a plain store
    ∷ completes (at_x 1 (reserved 0 x 0 ∷ conditional 0 x 1 ∷ stores 0 x 2 ∷ loads 0 x 2 ∷ [])) (0 ∷ 0 ∷ 0 ∷ 0 ∷ 4 ∷ 4 ∷ [])
    (0 ∷ 3 ∷ 1 ∷ 2 ∷ []) (initially ∷ nothing ∷ nothing ∷ 2 ∷ [])
    ∷ refuses (at_x 1 (stores 0 x 1 ∷ reserved 0 x 1 ∷ conditional 0 x 2 ∷ loads 0 x 2 ∷ [])) (0 ∷ 0 ∷ 0 ∷ []) 0
    ∷ weighs (at_x 1 (stores 0 x 1 ∷ reserved 0 x 1 ∷ conditional 0 x 2 ∷ loads 0 x 2 ∷ [])) (1 ∷ 3 ∷ 0 ∷ 2 ∷ []) false
    ∷ []

-- "a load or LR returns from that buffered store, else from the last write to memory. An AMO reads and writes memory at once."
abbrev two_then : Event → Table
two_then e = at_x 1 (stores 0 x 1 ∷ stores 0 x 2 ∷ e ∷ [])

abbrev across_harts : Event → Table
across_harts e = at_xy 2 (stores 0 x 1 ∷ stores 0 y 2 ∷ e ∷ [])

abbrev pub return_cases : List Claim
return_cases =
    -- the newest of two, to a load and to an LR; then the last of two in memory
    completes (two_then (loads 0 x 2)) (0 ∷ 0 ∷ 0 ∷ 4 ∷ 4 ∷ []) (2 ∷ 0 ∷ 1 ∷ []) (nothing ∷ nothing ∷ 1 ∷ [])
    ∷ completes (two_then (reserved 0 x 2)) (0 ∷ 0 ∷ 0 ∷ 4 ∷ 4 ∷ []) (2 ∷ 0 ∷ 1 ∷ []) (nothing ∷ nothing ∷ 1 ∷ [])
    ∷ answers (two_then (loads 0 x 2)) (0 ∷ 0 ∷ 4 ∷ []) 0 2 1
    ∷ answers (two_then (loads 0 x 2)) (0 ∷ 0 ∷ 4 ∷ 4 ∷ []) 0 2 1
    ∷ answers (two_then (swaps 0 x 2 3)) (0 ∷ 0 ∷ 4 ∷ 4 ∷ []) 0 2 1
    ∷ refuses (two_then (swaps 0 x 2 3)) (0 ∷ 0 ∷ 4 ∷ []) 0
    -- the only one that is left in the buffer, though another was written to memory since
    ∷ answers (at_x 2 (stores 0 x 1 ∷ loads 0 x 1 ∷ stores 1 x 2 ∷ [])) (0 ∷ 1 ∷ 5 ∷ []) 0 1 0
    -- another hart's buffer is not seen; its writes to memory are, those to the location alone
    ∷ answers (across_harts (loads 1 x 0)) (0 ∷ 0 ∷ []) 1 2 initially
    ∷ answers (across_harts (loads 1 x 1)) (0 ∷ 0 ∷ 4 ∷ 4 ∷ []) 1 2 0
    ∷ answers (across_harts (loads 1 y 0)) (0 ∷ 0 ∷ 4 ∷ []) 1 2 initially
    -- what an AMO wrote is in memory
    ∷ completes (at_x 2 (swaps 0 x 0 1 ∷ loads 1 x 1 ∷ [])) (0 ∷ 1 ∷ []) (0 ∷ 1 ∷ []) (initially ∷ 0 ∷ [])
    ∷ []

-- "An SC drains only if atomicity allows it."
abbrev pair_against : Table
pair_against = at_x 2 (reserved 0 x 0 ∷ conditional 0 x 1 ∷ stores 1 x 2 ∷ [])

abbrev stored_pair : Table
stored_pair = at_x 2 (stores 0 x 1 ∷ reserved 0 x 1 ∷ conditional 0 x 2 ∷ stores 1 x 3 ∷ [])

abbrev own_between : Table
own_between = at_x 1 (reserved 0 x 0 ∷ stores 0 x 1 ∷ conditional 0 x 2 ∷ [])

abbrev pub drain_cases : List Claim
drain_cases =
    -- another hart's write comes between what the LR returned from and the SC: the run can't be completed
    refuses pair_against (0 ∷ 0 ∷ 1 ∷ 5 ∷ []) 4
    ∷ leaves pair_against (0 ∷ 0 ∷ 1 ∷ 5 ∷ [])
    ∷ weighs pair_against (0 ∷ 2 ∷ 1 ∷ []) false
    ∷ completes pair_against (0 ∷ 0 ∷ 1 ∷ 4 ∷ 5 ∷ []) (0 ∷ 1 ∷ 2 ∷ []) (initially ∷ nothing ∷ nothing ∷ [])
    ∷ completes pair_against (1 ∷ 5 ∷ 0 ∷ 0 ∷ 4 ∷ []) (2 ∷ 0 ∷ 1 ∷ []) (2 ∷ nothing ∷ nothing ∷ [])
    -- before what the LR returned from, though behind the LR, it may
    ∷ completes stored_pair (0 ∷ 0 ∷ 0 ∷ 1 ∷ 5 ∷ 4 ∷ 4 ∷ []) (1 ∷ 3 ∷ 0 ∷ 2 ∷ []) (nothing ∷ 0 ∷ nothing ∷ nothing ∷ [])
    ∷ refuses stored_pair (0 ∷ 0 ∷ 0 ∷ 4 ∷ 1 ∷ 5 ∷ []) 4
    -- the own hart's may
    ∷ completes own_between (0 ∷ 0 ∷ 0 ∷ 4 ∷ 4 ∷ []) (0 ∷ 1 ∷ 2 ∷ []) (initially ∷ nothing ∷ nothing ∷ [])
    ∷ []

-- "The order of drains, loads, LRs and AMOs in complete runs": a store that was issued and not drained has no place in it
abbrev pub complete_cases : List Claim
complete_cases =
    leaves (at_x 1 (stores 0 x 1 ∷ [])) []
    ∷ leaves (at_x 1 (stores 0 x 1 ∷ [])) (0 ∷ [])
    ∷ completes (at_x 1 (stores 0 x 1 ∷ [])) (0 ∷ 4 ∷ []) (0 ∷ []) (nothing ∷ [])
    ∷ leaves (at_x 2 (loads 0 x 0 ∷ loads 1 x 0 ∷ [])) (1 ∷ [])
    ∷ completes (at_x 2 (loads 0 x 0 ∷ loads 1 x 0 ∷ [])) (1 ∷ 0 ∷ []) (1 ∷ 0 ∷ []) (initially ∷ initially ∷ [])
    ∷ []
