-- What the code holds of a state of the machine, and what a step makes of it.
use Rattle.std.specs.Prelude.{ℕ, ◌<◌, ◌≡◌, Bool, true, false, cond, not, ◌&&◌, Option, Some, None, SomeIff, List, length, take, eqb}
use Rattle.lists.specs.Lists.{has}
use Rattle.masks.specs.Bit.{bit}
use Rattle.table.specs.declared.EventNo.{EventNo}
use Rattle.table.specs.declared.Table.{Table}
use Rattle.table.specs.Events.{kind, location, reads, amo}
use Rattle.model.specs.Returns.{last_write}
use Rattle.successors.specs.CleanMasks.{slots}
use Rattle.event_sets.specs.Sets.{set_of, sets_of}
use Rattle.precedence.specs.Precedence.{predecessor_masks}
use Rattle.machine.specs.Machine.{State, start, buffered, waits, newest, unsure, may_issue, may_drain, enter, perform, drain}
use Rattle.machine.specs.Machine.{event_of, accepts, stepped, is_run}
use Rattle.machine.specs.Statements.{state}
use Rattle.machine.proofs.TsoLaws.{TsoTable}
use Rattle.machine.proofs.StateLaws.{Reached, Next}
use Rattle.steps.specs.declared.Machine.{Machine}
use Rattle.steps.specs.declared.Done.{Done}
use Rattle.steps.specs.declared.Taken.{Taken}

-- the sets and masks are those of the table
pub record Made (m : Machine) : Type 0 where
  pub tso : TsoTable m.table
  pub sets : m.sets ≡ sets_of m.table
  pub pred : m.pred ≡ predecessor_masks m.table

-- there is room for one event more
pub record Room (d : Done) (order rf : List ℕ) : Type 0 where
  pub more : d.len < slots
  pub long : length order ≡ slots
  pub each : length rf ≡ slots

-- masks and lists tell the state
pub record Holds (t : Table) (d : Done) (order rf : List ℕ) (s : State) : Type 0 where
  pub left : (k : ℕ) → k < t.count → bit d.left k ≡ not (has k s.issued)
  pub held : d.held ≡ set_of t (buffered t s)
  pub placed : take d.len order ≡ s.gmo
  pub returned : take t.count rf ≡ s.rf

-- of each state whose buffers the mask tells
abbrev pub OfBuffers : Table → ℕ → (State → Type 0) → Type 0
OfBuffers t held P = (s : State) → held ≡ set_of t (buffered t s) → P s

-- w is "the newest buffered store to its location", if there is one
abbrev pub IsNewest : Table → State → ℕ → Option EventNo → Type 0
IsNewest t s r w = SomeIff w (newest t s r < t.count) (record { 0 = newest t s r })

-- w, if there is one, "is an SC" or depends on one
abbrev pub some_unsure : Table → State → Option EventNo → Bool
some_unsure t s None = false
some_unsure t s (Some w) = unsure t s w.0

-- what is asked of the reader r before it issues, where w is that store
abbrev pub may_read : Table → State → ℕ → Option EventNo → Bool
may_read t s r w = not (waits t s r) && not (some_unsure t s w)

-- and what it returns then, with this order so far
abbrev pub returned_by : Table → List ℕ → ℕ → Option EventNo → ℕ
returned_by t gmo r None = last_write t gmo (location t r)
returned_by t gmo r (Some w) = cond (not (eqb (kind t r) amo)) w.0 (last_write t gmo (location t r))

-- a step that may be taken takes the event e and leads to a state, which masks and lists then tell
abbrev pub Outcome : Table → Bool → ℕ → State → (order rf : List ℕ) → Option Taken → Type 0
Outcome t may e to order rf None = may ≡ false
Outcome t may e to order rf (Some r) = (may ≡ true) × (r.event.0 ≡ e) × Holds t r.done order rf to

-- e is issued
abbrev pub Issues : Table → Done → (order rf : List ℕ) → ℕ → (order' rf' : List ℕ) → Option Taken → Type 0
Issues t d order rf e order' rf' r =
    (s : State) → Reached t s → Next t s e → Holds t d order rf s →
    Outcome t (may_issue t s e) e (cond (reads t e) (perform t s e) (enter s e)) order' rf' r

-- e drains
abbrev pub Drains : Table → Done → (order rf : List ℕ) → ℕ → (order' : List ℕ) → Option Taken → Type 0
Drains t d order rf e order' r = (s : State) → Holds t d order rf s → Outcome t (may_drain t s e) e (drain s e) order' rf r

-- the step b
abbrev pub Steps : Table → Done → (order rf : List ℕ) → ℕ → (order' rf' : List ℕ) → Option Taken → Type 0
Steps t d order rf b order' rf' r =
    (s : State) → Reached t s → Holds t d order rf s → Outcome t (accepts t s b) (event_of t s b) (stepped t s b) order' rf' r

-- no step was taken yet
pub record Begun (t : Table) (order rf : List ℕ) : Type 0 where
  pub long : length order ≡ slots
  pub each : length rf ≡ slots
  pub empty : take t.count rf ≡ (start t).rf

-- the steps of a list
abbrev pub RunsAs : Table → List ℕ → (order rf : List ℕ) → Option Done → Type 0
RunsAs t bs order rf None = is_run t (start t) bs ≡ false
RunsAs t bs order rf (Some done) = (is_run t (start t) bs ≡ true) × Holds t done order rf (state t bs)
