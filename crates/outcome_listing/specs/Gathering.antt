-- What the walk over a table's lawful orders is handed, and what it has gathered.
use Rattle.std.specs.Prelude.{ℕ, ◌*◌, ◌≤◌, ◌<◌, ◌≡◌, true, cond, List, Option, Some, None, length, take}
use Rattle.lists.specs.Ascending.{less, Ascending}
use Rattle.masks.specs.MaskOf.{mask_of}
use Rattle.sorted_rows.specs.Sorted.{insert, rows}
use Rattle.table.specs.declared.Table.{Table}
use Rattle.table.specs.Events.{memory_mask}
use Rattle.prefixes.specs.Listed.{after}
use Rattle.prefixes.specs.Statements.{seek}
use Rattle.model.specs.Witness.{is_order, witness_for}
use Rattle.model.specs.Prefixes.{clean, clean_prefixes}
use Rattle.fact_rows.specs.FactRows.{Facts}
use Rattle.fact_rows.specs.ValueRows.{Values}
use Rattle.precedence.specs.Precedence.{predecessor_masks}
use Rattle.condition_test.specs.Wanted.{any_order}
use Rattle.witness_walk.specs.declared.Ending.{Ending}
use Rattle.witness_walk.specs.Ending.{answer_of}
use Rattle.outcomes.specs.Outcomes.{readers, outcome_of, outcome_length, outcomes, Listing, spent, offered}
use Rattle.outcome_listing.specs.declared.Asked.{Asked}

-- the masks and facts are those of the table
pub record Walks (t : Table) (facts : List (List ℕ)) (preds : List ℕ) : Type 0 where
  pub known : Facts t facts
  pub values : Values t facts
  pub predecessors : preds ≡ predecessor_masks t

-- the walk from the prefix p on ended at the next lawful order, or without one
abbrev pub NextLawful : List (List ℕ) → List ℕ → ℕ → List ℕ → ℕ → List ℕ → Ending → Type 0
NextLawful facts preds mem p b after· o =
    (t : Table) → Walks t facts preds → mem ≡ memory_mask t → clean t p ≡ true →
    answer_of o after· ≡ seek (witness_for t any_order) (after p (clean_prefixes t)) p b 0

-- what the order gives was put among the n rows kept, which ascend, if it is above the previous outcome
abbrev pub Notes : List (List ℕ) → List ℕ → ℕ → Asked → List ℕ → ℕ → List ℕ → ℕ → List ℕ → Type 0
Notes facts gmo locations asked previous n kept r after· =
    (t : Table) → Facts t facts → Values t facts → is_order t gmo ≡ true → clean t gmo ≡ true →
    asked.readers ≡ mask_of (readers t) → locations ≡ t.locations → Ascending (rows (outcome_length t) n kept) →
    rows (outcome_length t) r after·
    ≡ cond (less previous (outcome_of t gmo)) (take asked.room (insert (outcome_of t gmo) (rows (outcome_length t) n kept)))
    (rows (outcome_length t) n kept)

-- all clean prefixes were visited, and kept are the least outcomes above the previous one; or there are more than the allowance
abbrev pub Gathers : Table → ℕ → List ℕ → ℕ → Option ℕ → List ℕ → Type 0
Gathers t room previous b (Some n) kept =
    (length (clean_prefixes t) ≤ b) × (rows (outcome_length t) n kept ≡ take room (after previous (outcomes t)))
Gathers t room previous b None kept = b < length (clean_prefixes t)

-- no more rows than there is room for
abbrev pub Within : ℕ → Option ℕ → Type 0
Within room (Some n) = n ≤ room
Within room None = Unit {0}

-- the rows have room among k places
abbrev pub Fits : ℕ → ℕ → Option ℕ → Type 0
Fits w k (Some n) = w * n ≤ k
Fits w k None = Unit {0}

-- what was gathered, as an answer
abbrev pub gathered_as : Option ℕ → ℕ → List ℕ → Listing
gathered_as (Some n) w kept = offered (rows w n kept)
gathered_as None w kept = spent
