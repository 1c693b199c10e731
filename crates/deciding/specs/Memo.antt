-- A memo of words: each that isn't 0 is a state that doesn't complete. It can only forget.
use Rattle.std.specs.Prelude.{ℕ, ◌+◌, ◌*◌, ◌<◌, ◌≡◌, Bool, true, false, List, ◌⊎◌, get_or}
use Rattle.table.specs.declared.Table.{Table}
use Rattle.states.specs.declared.State.{State}
use Rattle.states.specs.Completions.{Told}

-- a state as a word
abbrev pub word_of : State → ℕ
word_of s = s.good * 4294967296 + s.placed

-- no state whose word is in the memo completes; the word 0 says nothing
pub record Fruitless (t : Table) (memo : List ℕ) : Type 0 where
  pub none : (i : ℕ) (s : State) → s.placed < 4294967296 → get_or memo i 0 ≡ word_of s → (word_of s ≡ 0 → ⊥) → Told t s false

-- the state's word, which isn't 0, is in the memo
pub record Kept (memo : List ℕ) (s : State) : Type 0 where
  pub slot : ℕ
  pub here : get_or memo slot 0 ≡ word_of s
  pub some : word_of s ≡ 0 → ⊥

-- a memo that says so knows the state
abbrev pub Knows : List ℕ → State → Bool → Type 0
Knows memo s true = Kept memo s
Knows memo s false = Unit {0}

-- each word is as it was, or the state's
pub record Stored (before : List ℕ) (s : State) (after : List ℕ) : Type 0 where
  pub each : (i : ℕ) → (get_or after i 0 ≡ get_or before i 0) ⊎ (get_or after i 0 ≡ word_of s)

-- every word is 0
abbrev pub Blank : List ℕ → Type 0
Blank memo = (i : ℕ) → get_or memo i 0 ≡ 0
