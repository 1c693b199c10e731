-- What is claimed of the machine.
use Rattle.std.specs.Prelude.{ℕ, ◌-◌, ◌≡◌, Bool, true, false, cond, ◌&&◌, ◌||◌, not, List, [], ◌∷◌, ◌++◌, ◌↔◌, eqb}
use Rattle.lists.specs.Below.{below}
use Rattle.lists.specs.Lists.{keep}
use Rattle.edition.specs.Limits.{max_harts}
use Rattle.table.specs.declared.Table.{Table}
use Rattle.table.specs.Events.{kind, hart, reads, store, amo, sc}
use Rattle.model.specs.Rules.{from}
use Rattle.model.specs.Returns.{returns}
use Rattle.model.specs.Witness.{lawful}
use Rattle.machine.specs.Machine.{State, start, buffered, is_issue, event_of, is_run, after, entry_of, line24, complete}

-- the state that a list of steps leads to
abbrev pub state : Table → List ℕ → State
state t bs = after t (start t) bs

-- "drains, loads, LRs and AMOs": the step b from the state s is one of them
abbrev pub ordered : Table → State → ℕ → Bool
ordered t s b = not (is_issue b) || reads t (event_of t s b)

module _ (t : Table) where
  pub record MachineRight : Type 0 where
    -- 24 is off exactly if the list with the step added to it is a run
    pub accepted : (bs : List ℕ) (b : ℕ) → (line24 t bs b ≡ false) ↔ (is_run t (start t) (bs ++ (b ∷ [])) ≡ true)
    -- a run's order is "The order of drains, loads, LRs and AMOs": of the events that these answer
    pub order : (bs : List ℕ) (b : ℕ) →
        (state t (bs ++ (b ∷ []))).gmo ≡ (state t bs).gmo ++ cond (ordered t (state t bs) b) (event_of t (state t bs) b ∷ []) []
    -- what a step answers is "what a returned list holds for that event", whatever steps follow
    pub answered : (bs cs : List ℕ) (b : ℕ) → is_run t (start t) (bs ++ (b ∷ cs)) ≡ true →
        entry_of t (state t bs) b ≡ from (state t (bs ++ (b ∷ cs))).rf (event_of t (state t bs) b)
    -- the order of a complete run is lawful, and the run has "the same returns"
    pub sound : (bs : List ℕ) → is_run t (start t) bs ≡ true → complete t (state t bs) ≡ true →
        (lawful t (state t bs).gmo ≡ true) × ((state t bs).rf ≡ returns t (state t bs).gmo)
    -- and each lawful order is that of a complete run
    pub covers : (gmo : List ℕ) → lawful t gmo ≡ true →
        (bs : List ℕ) × (is_run t (start t) bs ≡ true) × (complete t (state t bs) ≡ true)
        × ((state t bs).gmo ≡ gmo) × ((state t bs).rf ≡ returns t gmo)

-- the buffer of hart h, oldest first
unfoldable pub buffer : Table → State → ℕ → List ℕ
buffer t s h = keep (λ e. eqb (hart t e) h && buffered t s e) (below t.count)

-- The buffers are queues, where b is a further step of a run.
module _ (t : Table) where
  pub record BuffersRight : Type 0 where
    -- "Plain stores and SCs enter the hart's buffer", behind what it holds; no other issue changes a buffer
    pub issues : (bs : List ℕ) (b : ℕ) → is_run t (start t) (bs ++ (b ∷ [])) ≡ true → is_issue b ≡ true → (h : ℕ) →
        let e = event_of t (state t bs) b in
        buffer t (state t (bs ++ (b ∷ []))) h
        ≡ buffer t (state t bs) h ++ cond (eqb b h && (eqb (kind t e) store || eqb (kind t e) sc)) (e ∷ []) []
    -- "drains its oldest buffered store": the first that its buffer holds leaves it
    pub drains : (bs : List ℕ) (b : ℕ) → is_run t (start t) (bs ++ (b ∷ [])) ≡ true → is_issue b ≡ false → (h : ℕ) →
        let e = event_of t (state t bs) b in
        buffer t (state t bs) h ≡ cond (eqb (b - max_harts) h) (e ∷ []) [] ++ buffer t (state t (bs ++ (b ∷ []))) h
    -- "An AMO reads and writes memory at once": its hart's buffer holds nothing then
    pub amos : (bs : List ℕ) (b : ℕ) → is_run t (start t) (bs ++ (b ∷ [])) ≡ true → is_issue b ≡ true →
        kind t (event_of t (state t bs) b) ≡ amo → buffer t (state t bs) b ≡ []
