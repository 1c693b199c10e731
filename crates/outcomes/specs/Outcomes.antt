-- "List the outcomes": what an order gives, the outcomes of a table, and what one call lists of them.
use Rattle.std.specs.Prelude.{ℕ, ◌+◌, cond, List, [], ◌∷◌, ◌++◌, map, length, take, ltb}
use Rattle.lists.specs.Below.{below}
use Rattle.lists.specs.Lists.{keep}
use Rattle.sorted_rows.specs.Sorted.{sorted}
use Rattle.table.specs.declared.Table.{Table}
use Rattle.table.specs.Events.{reads}
use Rattle.prefixes.specs.Listed.{after}
use Rattle.model.specs.Witness.{lawful}
use Rattle.model.specs.Prefixes.{clean_prefixes, orders}
use Rattle.model.specs.Following.{returned_value, end_value}

-- the readers of a test, "in event order"
unfoldable pub readers : Table → List ℕ
readers t = keep (reads t) (below t.count)

-- what an order gives: "each reader's value in event order, then each location's final value. AMOs with an operation write as in
-- T-08"
unfoldable pub outcome_of : Table → List ℕ → List ℕ
outcome_of t gmo = map (returned_value t gmo) (readers t) ++ map (end_value t gmo) (below t.locations)

-- how many values that are
unfoldable pub outcome_length : Table → ℕ
outcome_length t = length (readers t) + t.locations

-- "every outcome that some lawful order gives", "in ascending order, each once"
unfoldable pub outcomes : Table → List (List ℕ)
outcomes t = sorted (map (outcome_of t) (keep (lawful t) (orders t)))

-- what a call gives: outcomes, one at least; "none are left"; spent
pub data Listing : Type 0 where
  given : List (List ℕ) → Listing
  none_left : Listing
  spent : Listing

abbrev pub offered : List (List ℕ) → Listing
offered [] = none_left
offered (o ∷ os) = given (o ∷ os)

-- a call for the next k outcomes (the next one: k is 1), after the previous outcome, or the empty list for none: "gives the least above
-- it, or says none are left"; "if the first engine's list from the empty start is longer" than the allowance b, "the answer is spent"
unfoldable pub listing : Table → List ℕ → ℕ → ℕ → Listing
listing t previous k b = cond (ltb b (length (clean_prefixes t))) spent (offered (take k (after previous (outcomes t))))
