-- What the tests of a state read in place of the table.
use Rattle.std.specs.Prelude.{ℕ, ◌<◌, ◌≡◌, Bool, true, ◌&&◌, List, get_or}
use Rattle.lists.specs.Below.{some}
use Rattle.masks.specs.Bit.{bit}
use Rattle.table.specs.declared.Table.{Table}
use Rattle.table.specs.Events.{capacity, reads, writes, memory, memory_mask, same_location}
use Rattle.order_facts.specs.Facts.{mask_by}
use Rattle.fact_rows.specs.FactRows.{row, mask, Facts}
use Rattle.precedence.specs.Precedence.{predecessor_masks}
use Rattle.states.specs.declared.State.{State}
use Rattle.states.specs.States.{start, step, accepts}
use Rattle.states.specs.Choices.{lacks}
use Rattle.states.specs.Completions.{Enough}

-- the rows
abbrev pub before_row : ℕ
before_row = 0

abbrev pub place_row : ℕ
place_row = 1

abbrev pub kind_row : ℕ
kind_row = 2

-- the words of the last of them
abbrev pub memory_word : ℕ
memory_word = 0

abbrev pub writers_word : ℕ
writers_word = 1

abbrev pub readers_word : ℕ
readers_word = 2

-- the facts and these rows are those of a good table
pub record Board (t : Table) (facts ties : List (List ℕ)) : Type 0 where
  pub known : Facts t facts
  pub before : row ties before_row ≡ predecessor_masks t
  pub place : (e : ℕ) → e < t.count → mask ties place_row e ≡ mask_by t (λ a. memory t a && same_location t a e)
  pub memory : mask ties kind_row memory_word ≡ memory_mask t
  pub writers : mask ties kind_row writers_word ≡ mask_by t (writes t)
  pub readers : mask ties kind_row readers_word ≡ mask_by t (reads t)

-- there is such a table
abbrev pub Boarded : List (List ℕ) → List (List ℕ) → Type 0
Boarded facts ties = (t : Table) × Board t facts ties

-- r is what f says of each table that has these facts
abbrev pub Says : {A : Type 0} → List (List ℕ) → List (List ℕ) → (Table → A) → A → Type 0
Says facts ties f r = (t : Table) → Board t facts ties → r ≡ f t

-- the same by the facts alone
abbrev pub FactsSay : {A : Type 0} → List (List ℕ) → (Table → A) → A → Type 0
FactsSay facts f r = (t : Table) → Facts t facts → r ≡ f t

-- r is what f says of event e
abbrev pub SaysOf : {A : Type 0} → List (List ℕ) → List (List ℕ) → ℕ → (Table → A) → A → Type 0
SaysOf facts ties e f r = (t : Table) → Board t facts ties → e < t.count → r ≡ f t

-- r is the mask of what e's forwarder needs and isn't placed
abbrev pub Lacking : List (List ℕ) → ℕ → ℕ → ℕ → Type 0
Lacking facts placed e r = (t : Table) → Facts t facts → e < t.count → r ≡ mask_by t (lacks t (bit placed) e)

-- the bits of m are the events that may be placed next
abbrev pub Accepted : List (List ℕ) → List (List ℕ) → State → ℕ → Type 0
Accepted facts ties s m = (t : Table) → Board t facts ties → (e : ℕ) → bit m e ≡ accepts t s e

-- r is the union of the masks of the bits of m
abbrev pub Union : (ℕ → ℕ) → ℕ → ℕ → Type 0
Union masks m r = (j : ℕ) → bit r j ≡ some capacity (λ e. bit m e && bit (masks e) j)

-- if the bits of can are the events that may be placed next, those of m are among them, and enough to try
pub record Chosen (t : Table) (s : State) (can m : ℕ) : Type 0 where
  pub may : (e : ℕ) → bit m e ≡ true → bit can e ≡ true
  pub enough : Enough t s (bit m)

abbrev pub Chooses : List (List ℕ) → List (List ℕ) → State → ℕ → ℕ → Type 0
Chooses facts ties s can m = (t : Table) → Board t facts ties → ((e : ℕ) → bit can e ≡ accepts t s e) → Chosen t s can m

-- these rows are those of the table
abbrev pub TiesOf : Table → List (List ℕ) → Type 0
TiesOf t ties = (facts : List (List ℕ)) → Facts t facts → Board t facts ties

-- r is the first state
abbrev pub Starts : List (List ℕ) → State → Type 0
Starts facts r = (t : Table) → Facts t facts → r ≡ start t

-- r is the state behind e
abbrev pub Steps : List (List ℕ) → State → ℕ → State → Type 0
Steps facts s e r = (t : Table) → Facts t facts → e < t.count → r ≡ step t s e
