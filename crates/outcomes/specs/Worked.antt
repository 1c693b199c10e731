-- Cases worked by hand from the request. x and y are locations 0 and 1. Numbers are the paper's, and not names of the definitions,
-- which the cases are to hold.
use Rattle.std.specs.Prelude.{ℕ, ◌≡◌, List, [], ◌∷◌}
use Rattle.sorted_rows.specs.Sorted.{insert, sorted}
use Rattle.table.specs.declared.Table.{Table}
use Rattle.model.specs.Claims.{x, y, loads, stores, swaps, reserved, conditional, operated, valued, plain_test, in_model, Passes}
use Rattle.outcomes.specs.Outcomes.{readers, outcome_of, outcome_length, outcomes, Listing, given, none_left, spent, listing}

-- What is stated of a case.
pub data Claim : Type 0 where
  -- the outcomes of a test, ascending, and how many values each has
  has : Table → (length : ℕ) → List (List ℕ) → Claim
  -- a call for the next k after the previous outcome, with an allowance
  asks : Table → (previous : List ℕ) → (k allowance : ℕ) → Listing → Claim

-- its table passes lines 5 to 11 and 21
abbrev pub Right : Claim → Type 0
Right (has t n os) = Passes t × (outcome_length t ≡ n) × (outcomes t ≡ os)
Right (asks t p k b a) = Passes t × (listing t p k b ≡ a)

abbrev pub Every : List Claim → Type 0
Every [] = Unit {0}
Every (c ∷ cs) = Right c × Every cs

-- the definitions that a case computes by, besides the model's
unfoldable pub computes : Unit {0}
unfolding insert sorted readers outcome_of outcome_length outcomes listing
computes = tt

-- message passing: stores x and y, loads y and x; two values read, and both final values
abbrev passing : Table
passing = plain_test 2 2 (stores 0 x 1 ∷ stores 0 y 1 ∷ loads 1 y 1 ∷ loads 1 x 0 ∷ [])

-- an increment of x on each of two harts, from 7
abbrev increments : Table
increments = valued 2 1 0 (7 ∷ []) [] (operated 1 1 (swaps 0 x 7 8) ∷ operated 1 1 (swaps 1 x 7 8) ∷ [])

-- a test that nothing writes; its second location is there by its stated value
abbrev reading : Table
reading = valued 1 2 2 (3 ∷ 4 ∷ []) (0 ∷ 9 ∷ []) (loads 0 x 5 ∷ loads 0 x 6 ∷ [])

abbrev pub outcome_cases : List Claim
outcome_cases =
    has passing 4 ((0 ∷ 0 ∷ 1 ∷ 1 ∷ []) ∷ (0 ∷ 1 ∷ 1 ∷ 1 ∷ []) ∷ (1 ∷ 0 ∷ 1 ∷ 1 ∷ []) ∷ (1 ∷ 1 ∷ 1 ∷ 1 ∷ []) ∷ [])
    -- lawful orders of the model
    ∷ has (in_model 1 passing) 4 ((0 ∷ 0 ∷ 1 ∷ 1 ∷ []) ∷ (0 ∷ 1 ∷ 1 ∷ 1 ∷ []) ∷ (1 ∷ 1 ∷ 1 ∷ 1 ∷ []) ∷ [])
    -- what AMOs with an operation leave follows from the order, whatever is stated
    ∷ has increments 3 ((7 ∷ 8 ∷ 9 ∷ []) ∷ (8 ∷ 7 ∷ 9 ∷ []) ∷ [])
    -- an LR and its SC beside another hart's store: never 0 1, by atomicity
    ∷ has (plain_test 2 1 (reserved 0 x 0 ∷ conditional 0 x 1 ∷ stores 1 x 2 ∷ [])) 2 ((0 ∷ 2 ∷ []) ∷ (2 ∷ 1 ∷ []) ∷ [])
    -- final values of locations that nothing writes; stated reads and finals are ignored
    ∷ has reading 4 ((3 ∷ 3 ∷ 3 ∷ 4 ∷ []) ∷ [])
    -- two stores of one value: one outcome
    ∷ has (plain_test 2 1 (stores 0 x 1 ∷ stores 1 x 1 ∷ [])) 1 ((1 ∷ []) ∷ [])
    ∷ []

-- "the call takes the previous outcome, or the empty list for none, and gives the least above it, or says none are left"
abbrev pub call_cases : List Claim
call_cases =
    asks passing [] 1 64 (given ((0 ∷ 0 ∷ 1 ∷ 1 ∷ []) ∷ []))
    ∷ asks passing (0 ∷ 0 ∷ 1 ∷ 1 ∷ []) 1 64 (given ((0 ∷ 1 ∷ 1 ∷ 1 ∷ []) ∷ []))
    ∷ asks passing (1 ∷ 1 ∷ 1 ∷ 1 ∷ []) 1 64 none_left
    -- "Any values may be given as the previous outcome"
    ∷ asks passing (0 ∷ 1 ∷ 7 ∷ 7 ∷ []) 1 64 (given ((1 ∷ 0 ∷ 1 ∷ 1 ∷ []) ∷ []))
    ∷ asks passing (9 ∷ 0 ∷ 0 ∷ 0 ∷ []) 1 64 none_left
    -- several at once, no more than there are
    ∷ asks passing (0 ∷ 1 ∷ 0 ∷ 0 ∷ []) 2 64 (given ((0 ∷ 1 ∷ 1 ∷ 1 ∷ []) ∷ (1 ∷ 0 ∷ 1 ∷ 1 ∷ []) ∷ []))
    ∷ asks passing (1 ∷ 0 ∷ 0 ∷ 0 ∷ []) 9 64 (given ((1 ∷ 0 ∷ 1 ∷ 1 ∷ []) ∷ (1 ∷ 1 ∷ 1 ∷ 1 ∷ []) ∷ []))
    -- "if the first engine's list from the empty start is longer, the answer is spent": it has 64 entries
    ∷ asks passing [] 1 63 spent
    ∷ asks passing (9 ∷ 0 ∷ 0 ∷ 0 ∷ []) 1 63 spent
    ∷ asks passing [] 1 1000 (given ((0 ∷ 0 ∷ 1 ∷ 1 ∷ []) ∷ []))
    ∷ []
