-- Whether a state completes, what is enough to try, and the least run that is greater than a list.
use Rattle.std.specs.Prelude.{ℕ, ◌+◌, ◌≡◌, Bool, true, false, List, length}
use Rattle.lists.specs.Lists.{has, distinct}
use Rattle.lists.specs.Ascending.{less}
use Rattle.masks.specs.MaskOf.{mask_of}
use Rattle.table.specs.declared.Table.{Table}
use Rattle.table.specs.Events.{memory_count}
use Rattle.model.specs.Witness.{is_memory_event}
use Rattle.states.specs.declared.State.{State}
use Rattle.states.specs.States.{accepts, step, ends, runs}

-- b: some list of events leads from s to an end
abbrev pub Told : Table → State → Bool → Type 0
Told t s true = (l : List ℕ) × (runs t s l ≡ true)
Told t s false = (l : List ℕ) → runs t s l ≡ false

-- the events of s that are placed are different memory events, and n are left
pub record Reached (t : Table) (s : State) (n : ℕ) : Type 0 where
  pub behind : List ℕ
  pub different : distinct behind ≡ true
  pub events : (e : ℕ) → has e behind ≡ true → is_memory_event t e ≡ true
  pub placed : s.placed ≡ mask_of behind
  pub counted : length behind + n ≡ memory_count t

-- an event of the set that leads on
pub record Onward (t : Table) (s : State) (set : ℕ → Bool) : Type 0 where
  pub next : ℕ
  pub rest : List ℕ
  pub listed : set next ≡ true
  pub may : accepts t s next ≡ true
  pub run : runs t (step t s next) rest ≡ true

-- the events of the set are enough to try: if s has a run and isn't an end, one of them leads on
abbrev pub Enough : Table → State → (ℕ → Bool) → Type 0
Enough t s set = (l : List ℕ) → runs t s l ≡ true → ends t s ≡ false → Onward t s set

-- w is the least run from s
pub record Least (t : Table) (s : State) (w : List ℕ) : Type 0 where
  pub run : runs t s w ≡ true
  pub least : (l : List ℕ) → runs t s l ≡ true → less l w ≡ false

-- w is the least run from s that is greater than the list
pub record LeastAbove (t : Table) (s : State) (p w : List ℕ) : Type 0 where
  pub run : runs t s w ≡ true
  pub above : less p w ≡ true
  pub least : (l : List ℕ) → runs t s l ≡ true → less p l ≡ true → less l w ≡ false

-- no run from s is greater than the list
abbrev pub NoneAbove : Table → State → List ℕ → Type 0
NoneAbove t s p = (l : List ℕ) → runs t s l ≡ true → less p l ≡ false
