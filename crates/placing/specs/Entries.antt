-- A list of events told entry by entry, each by those that stand before it.
use Rattle.std.specs.Prelude.{ℕ, Bool, List, get_or, take}
use Rattle.lists.specs.Lists.{has, before}
use Rattle.table.specs.declared.Table.{Table}
use Rattle.model.specs.Returns.{final_value}
use Rattle.placing.specs.Guards.{ready, may_place, reads_stated}

-- a stands before e
abbrev pub ahead : List ℕ → ℕ → ℕ → Bool
ahead gmo e a = before gmo a e

-- a is one of the first i entries
abbrev pub among : List ℕ → ℕ → ℕ → Bool
among gmo i a = has a (take i gmo)

-- entry i has no "steady predecessor missing or standing after it"
unfoldable pub ready_at : Table → List ℕ → ℕ → Bool
ready_at t gmo i = ready t (among gmo i) (get_or gmo i 0)

-- what it returns, if it reads, and what it writes is lawful
unfoldable pub lawful_at : Table → List ℕ → ℕ → Bool
lawful_at t gmo i = may_place t (among gmo i) (get_or gmo i 0)

-- if it reads, it returns its stated value; at each location is what the entries before it wrote last
unfoldable pub stated_at : Table → List ℕ → ℕ → Bool
stated_at t gmo i = reads_stated t (among gmo i) (final_value t (take i gmo)) (get_or gmo i 0)
