-- Cases worked by hand from the request. Numbers are the paper's, and not names of the definitions, which the cases are to hold.
use Rattle.std.specs.Prelude.{ℕ, ◌≡◌, Bool, true, false, List, [], ◌∷◌, ◌++◌, replicate}
use Rattle.table.specs.declared.Event.{Event}
use Rattle.table.specs.declared.Table.{Table}
use Rattle.model.specs.Claims.{x, y, loads, stores, fences, fences_tso, full_fence, plain_test, in_model, Passes}
use Rattle.advice.specs.Sets.{sets, of_size, by_size}
use Rattle.advice.specs.Advice.{clear_fence, clear_fences, line22, with_fences, search_with, Advice, advised, undecided, fences_dont_help, first_unfound, advice}

-- What is stated of a case.
pub data Claim : Type 0 where
  -- the sets of a list's entries are tried in this order
  tries : List ℕ → List (List ℕ) → Claim
  -- these fences count, and 22 refuses the table or not
  counts : Table → List ℕ → (refused : Bool) → Claim
  -- the table with a set turned is this one
  turns : Table → List ℕ → Table → Claim
  advises : Table → (allowance : ℕ) → Advice → Claim

-- its table passes lines 5 to 11 and 21
abbrev pub Right : Claim → Type 0
Right (tries l ss) = by_size l ≡ ss
Right (counts t es r) = Passes t × (clear_fences t ≡ es) × (line22 t ≡ r)
Right (turns t s u) = Passes t × (with_fences t s ≡ u)
Right (advises t b a) = Passes t × (advice t b ≡ a)

abbrev pub Every : List Claim → Type 0
Every [] = Unit {0}
Every (c ∷ cs) = Right c × Every cs

-- the definitions that a case computes by, besides the model's
unfoldable pub computes : Unit {0}
unfolding sets of_size by_size clear_fence clear_fences line22 with_fences search_with first_unfound advice
computes = tt

-- "the empty set first, then by size, equal sizes by their ascending lists of event numbers, compared as prefixes are": 1 8 before 4 6
abbrev pub set_cases : List Claim
set_cases =
    tries [] ([] ∷ [])
    ∷ tries (3 ∷ []) ([] ∷ (3 ∷ []) ∷ [])
    ∷ tries (1 ∷ 4 ∷ 6 ∷ 8 ∷ [])
    ([]
    ∷ (1 ∷ []) ∷ (4 ∷ []) ∷ (6 ∷ []) ∷ (8 ∷ [])
    ∷ (1 ∷ 4 ∷ []) ∷ (1 ∷ 6 ∷ []) ∷ (1 ∷ 8 ∷ []) ∷ (4 ∷ 6 ∷ []) ∷ (4 ∷ 8 ∷ []) ∷ (6 ∷ 8 ∷ [])
    ∷ (1 ∷ 4 ∷ 6 ∷ []) ∷ (1 ∷ 4 ∷ 8 ∷ []) ∷ (1 ∷ 6 ∷ 8 ∷ []) ∷ (4 ∷ 6 ∷ 8 ∷ [])
    ∷ (1 ∷ 4 ∷ 6 ∷ 8 ∷ []) ∷ [])
    ∷ []

-- message passing with these between its stores (from event 1 on) and between its loads
abbrev passing : (writer reader : List Event) → Table
passing w r = plain_test 2 2 (stores 0 x 1 ∷ w ++ (stores 0 y 1 ∷ loads 1 y 1 ∷ r) ++ (loads 1 x 0 ∷ []))

-- a fence with all bits clear
abbrev clear : (hart : ℕ) → Event
clear h = fences h 0

abbrev empty_fences : Table
empty_fences = passing (clear 0 ∷ []) (clear 1 ∷ [])

-- one hart: so many clear fences, and a load
abbrev many : (number : ℕ) → Table
many n = plain_test 1 1 (replicate n (clear 0) ++ (loads 0 x 0 ∷ []))

-- each bit alone, all, fence.tso, and two that are clear
abbrev mixed : Table
mixed =
    plain_test 1 1
    (fences 0 1 ∷ fences 0 2 ∷ fences 0 4 ∷ fences 0 8 ∷ clear 0 ∷ fences_tso 0 ∷ loads 0 x 0 ∷ full_fence 0 ∷ clear 0 ∷ [])

-- eight of ten are clear
abbrev ten_fences : Table
ten_fences = plain_test 1 1 (fences_tso 0 ∷ fences 0 1 ∷ replicate 8 (clear 0) ++ (loads 0 x 0 ∷ []))

abbrev pub fence_cases : List Claim
fence_cases =
    counts empty_fences (1 ∷ 4 ∷ []) false
    -- a fence with some bits isn't counted, whichever they are, nor is fence.tso
    ∷ counts mixed (4 ∷ 8 ∷ []) false
    -- "up to eight"
    ∷ counts (many 8) (0 ∷ 1 ∷ 2 ∷ 3 ∷ 4 ∷ 5 ∷ 6 ∷ 7 ∷ []) false
    ∷ counts (many 9) (0 ∷ 1 ∷ 2 ∷ 3 ∷ 4 ∷ 5 ∷ 6 ∷ 7 ∷ 8 ∷ []) true
    -- others don't count towards these
    ∷ counts ten_fences (2 ∷ 3 ∷ 4 ∷ 5 ∷ 6 ∷ 7 ∷ 8 ∷ 9 ∷ []) false
    -- "turned to all four bits"
    ∷ turns empty_fences (1 ∷ 4 ∷ []) (passing (full_fence 0 ∷ []) (full_fence 1 ∷ []))
    ∷ turns empty_fences (4 ∷ []) (passing (clear 0 ∷ []) (full_fence 1 ∷ []))
    ∷ turns empty_fences [] empty_fences
    ∷ []

-- an allowance that no case uses up
abbrev ample : ℕ
ample = 1000

-- Message passing is found with 27 visited, with its first fence turned 29, with its second 18; with both, none are left of 18.
abbrev pub advice_cases : List Claim
advice_cases =
    advises empty_fences ample (advised (1 ∷ 4 ∷ []))
    -- all four have just enough
    ∷ advises empty_fences 29 (advised (1 ∷ 4 ∷ []))
    -- the second set is spent, the first isn't
    ∷ advises empty_fences 28 (undecided (1 ∷ []))
    ∷ advises empty_fences 27 (undecided (1 ∷ []))
    ∷ advises empty_fences 26 (undecided [])
    ∷ advises empty_fences 0 (undecided [])
    -- where one is full already, or orders as far as is needed, the other is missing
    ∷ advises (passing (clear 0 ∷ []) (full_fence 1 ∷ [])) ample (advised (1 ∷ []))
    ∷ advises (passing (fences_tso 0 ∷ []) (clear 1 ∷ [])) ample (advised (4 ∷ []))
    -- each of two would do: the lesser is advised
    ∷ advises (passing (clear 0 ∷ clear 0 ∷ []) (full_fence 1 ∷ [])) ample (advised (1 ∷ []))
    ∷ advises (passing (clear 0 ∷ []) (clear 1 ∷ clear 1 ∷ [])) ample (advised (1 ∷ 4 ∷ []))
    -- nothing is missing: the empty set forbids; with an allowance too small that isn't known
    ∷ advises (in_model 1 empty_fences) ample (advised [])
    ∷ advises (in_model 1 empty_fences) 18 (advised [])
    ∷ advises (in_model 1 empty_fences) 17 (undecided [])
    -- a fence with some bits stays as it is
    ∷ advises (passing (fences 0 1 ∷ []) (clear 1 ∷ [])) ample fences_dont_help
    -- no fence helps: a load that returns from its hart's store; a test without a clear fence
    ∷ advises (plain_test 1 1 (stores 0 x 1 ∷ clear 0 ∷ loads 0 x 1 ∷ [])) ample fences_dont_help
    ∷ advises (passing [] []) ample fences_dont_help
    ∷ []
