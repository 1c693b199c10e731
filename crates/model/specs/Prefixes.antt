-- "The search", of a table: prefixes, clean prefixes, their ascending list, and the answer.
use Rattle.std.specs.Prelude.{ℕ, Bool, ◌&&◌, ◌||◌, not, List, [], length, eqb}
use Rattle.lists.specs.Below.{every}
use Rattle.lists.specs.Lists.{all, keep, distinct, before}
use Rattle.table.specs.declared.Table.{Table}
use Rattle.table.specs.Events.{memory_events, memory_count}
use Rattle.prefixes.specs.Listed.{listed, after}
use Rattle.prefixes.specs.Answer.{Answer, answer}
use Rattle.model.specs.Rules.{static_ppo}
use Rattle.model.specs.Witness.{is_memory_event, witness_for, stated_outcome, witness}

-- "A prefix is a list of different memory events."
unfoldable pub is_prefix : Table → List ℕ → Bool
is_prefix t p = all (is_memory_event t) p && distinct p

-- every steady predecessor of e is listed, before e
unfoldable pub predecessors_listed : Table → List ℕ → ℕ → Bool
predecessors_listed t p e = every t.count (λ a. not (static_ppo t a e) || before p a e)

-- "It is clean if no listed event has a steady predecessor missing or standing after it": a prefix of a linear extension
-- of static ppo
unfoldable pub clean : Table → List ℕ → Bool
clean t p = is_prefix t p && all (predecessors_listed t p) p

-- all nonempty prefixes that pass a test, ascending
abbrev pub prefixes_by : Table → (List ℕ → Bool) → List (List ℕ)
prefixes_by t passes = listed passes (memory_events t) (memory_count t)

-- all nonempty clean prefixes, ascending
unfoldable pub clean_prefixes : Table → List (List ℕ)
clean_prefixes t = prefixes_by t (clean t)

-- one search for an outcome along the prefixes that pass a test, from a start with an allowance
unfoldable pub search_by : Table → (passes outcome : List ℕ → Bool) → List ℕ → ℕ → Answer
search_by t passes outcome s b = answer (witness_for t outcome) (after s (prefixes_by t passes)) s b

-- one search along the clean prefixes, for the outcome that the table states
unfoldable pub search : Table → List ℕ → ℕ → Answer
search t s b = search_by t (clean t) (stated_outcome t) s b

-- all orders of the memory events, ascending
unfoldable pub orders : Table → List (List ℕ)
orders t = keep (λ p. eqb (length p) (memory_count t)) (listed distinct (memory_events t) (memory_count t))

-- the witnesses, ascending
unfoldable pub witnesses : Table → List (List ℕ)
witnesses t = keep (witness t) (orders t)
