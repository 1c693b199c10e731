-- What the search by states has told, of every table that has these facts and of whose states the memo tells the truth.
use Rattle.std.specs.Prelude.{ℕ, ◌<◌, ◌≡◌, Bool, true, false, ◌&&◌, List, Option, Some, None, ◌∷◌, take, drop, ltb}
use Rattle.masks.specs.Bit.{bit}
use Rattle.table.specs.declared.Table.{Table}
use Rattle.states.specs.declared.State.{State}
use Rattle.states.specs.States.{accepts, step}
use Rattle.states.specs.Completions.{Told, Reached, Least, LeastAbove, NoneAbove}
use Rattle.state_test.specs.Board.{Board}
use Rattle.deciding.specs.Memo.{Fruitless}

-- from the state s with n events left the claim holds, and the memo still tells the truth
abbrev pub Tells : List (List ℕ) → List (List ℕ) → List ℕ → List ℕ → State → ℕ → (Table → Type 0) → Type 0
Tells facts ties before after s n claim =
    (t : Table) → Board t facts ties → Reached t s n → Fruitless t before → claim t × Fruitless t after

-- r: s completes
abbrev pub Completes : List (List ℕ) → List (List ℕ) → List ℕ → List ℕ → State → ℕ → Bool → Type 0
Completes facts ties before after s n r = Tells facts ties before after s n (λ t. Told t s r)

-- the events of the mask may be placed
pub record May (facts ties : List (List ℕ)) (s : State) (events : ℕ) : Type 0 where
  pub each : (t : Table) → Board t facts ties → (e : ℕ) → bit events e ≡ true → accepts t s e ≡ true

-- none of the events leads on
abbrev pub NoneLeads : Table → State → ℕ → Type 0
NoneLeads t s events = (k : ℕ) → bit events k ≡ true → Told t (step t s k) false

-- e is the lowest of the events that leads on
pub record Lowest (t : Table) (s : State) (events e : ℕ) : Type 0 where
  pub listed : bit events e ≡ true
  pub leads : Told t (step t s e) true
  pub lower : (k : ℕ) → k < e → bit events k ≡ true → Told t (step t s k) false

abbrev pub Leading : Table → State → ℕ → Option ℕ → Type 0
Leading t s events (Some e) = Lowest t s events e
Leading t s events None = NoneLeads t s events

-- an event that is given is one of them
abbrev pub Listed : ℕ → Option ℕ → Type 0
Listed events (Some e) = bit events e ≡ true
Listed events None = Unit {0}

pub record Leads (facts ties : List (List ℕ)) (before after : List ℕ) (s : State) (n events : ℕ) (r : Option ℕ) : Type 0 where
  pub listed : Listed events r
  pub tells : Tells facts ties before after s n (λ t. Leading t s events r)

-- w is the least of the runs that begin with one of the events
pub record LeastAmong (t : Table) (s : State) (events : ℕ) (w : List ℕ) : Type 0 where
  pub head : ℕ
  pub rest : List ℕ
  pub same : w ≡ head ∷ rest
  pub listed : bit events head ≡ true
  pub least : Least t (step t s head) rest
  pub lower : (k : ℕ) → k < head → bit events k ≡ true → Told t (step t s k) false

abbrev pub Among : Table → State → ℕ → List ℕ → Bool → Type 0
Among t s events w true = LeastAmong t s events w
Among t s events w false = NoneLeads t s events

-- what was written from entry `at` on; those before it stay
pub record LeadsLeast (facts ties : List (List ℕ)) (before after : List ℕ) (s : State) (n events at : ℕ) (order written : List ℕ)
    (r : Bool) : Type 0 where
  pub front : take at written ≡ take at order
  pub tells : Tells facts ties before after s n (λ t. Among t s events (take n (drop at written)) r)

-- the bits of m that are greater than x
abbrev pub Above : ℕ → ℕ → ℕ → Type 0
Above m x r = (k : ℕ) → bit r k ≡ (bit m k && ltb x k)

-- w is the least run that is greater than the list, or none is
abbrev pub Next : Table → State → List ℕ → List ℕ → Bool → Type 0
Next t s p w true = LeastAbove t s p w
Next t s p w false = NoneAbove t s p

pub record GoesOn (facts ties : List (List ℕ)) (before after : List ℕ) (s : State) (n : ℕ) (start : List ℕ) (at : ℕ)
    (order written : List ℕ) (r : Bool) : Type 0 where
  pub front : take at written ≡ take at order
  pub tells : Tells facts ties before after s n (λ t. Next t s (drop at start) (take n (drop at written)) r)
