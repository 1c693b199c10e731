-- "Tests as text": the values that follow from an order, which conditions it makes true, and which name what they may not. The
-- values were worked by hand.
use Rattle.std.specs.Prelude.{ℕ, true, false, List, [], ◌∷◌}
use Rattle.table.specs.declared.Event.{Event}
use Rattle.table.specs.declared.Table.{Table}
use Rattle.text_format.specs.Condition.{Condition, returns, ends, negated, both, either}
use Rattle.model.specs.Claims.{x, y, loads, stores, swaps, reserved, conditional, operated, full_fence, plain_test, valued}
use Rattle.model.specs.Claims.{Claim, gives, makes, misnames, leaves_unused}

-- an AMO that adds, one that leaves the smaller; they state no values
abbrev adds : (hart location operand : ℕ) → Event
adds h l n = operated 1 n (swaps h l 0 0)

abbrev lowers : (hart location operand : ℕ) → Event
lowers h l n = operated 6 n (swaps h l 0 0)

-- an increment of x on each of two harts (0, 1), from 7
abbrev increments : Table
increments = valued 2 1 0 (7 ∷ []) [] (adds 0 x 1 ∷ adds 1 x 1 ∷ [])

-- store x (0) and load x (1) on hart 0; store x (2) on hart 1
abbrev forwarded : Table
forwarded = plain_test 2 1 (stores 0 x 1 ∷ loads 0 x 0 ∷ stores 1 x 2 ∷ [])

-- "what follows from what the order makes it return"
abbrev pub following_cases : List Claim
following_cases =
    -- two increments from 7
    gives increments (0 ∷ 1 ∷ []) (7 ∷ 8 ∷ 9 ∷ [])
    ∷ gives increments (1 ∷ 0 ∷ []) (8 ∷ 7 ∷ 9 ∷ [])
    -- of what a store, an AMO with another operation and one without left
    ∷ gives (plain_test 1 1 (stores 0 x 5 ∷ adds 0 x 3 ∷ lowers 0 x 2 ∷ loads 0 x 0 ∷ [])) (0 ∷ 1 ∷ 2 ∷ 3 ∷ [])
    (5 ∷ 8 ∷ 2 ∷ 2 ∷ [])
    ∷ gives (plain_test 1 1 (swaps 0 x 0 4 ∷ adds 0 x 1 ∷ [])) (0 ∷ 1 ∷ []) (0 ∷ 4 ∷ 5 ∷ [])
    -- a store is forwarded to its own load before it is in memory, and not after
    ∷ gives forwarded (1 ∷ 0 ∷ 2 ∷ []) (1 ∷ 2 ∷ [])
    ∷ gives forwarded (2 ∷ 1 ∷ 0 ∷ []) (1 ∷ 1 ∷ [])
    ∷ gives forwarded (0 ∷ 2 ∷ 1 ∷ []) (2 ∷ 2 ∷ [])
    -- another hart's isn't
    ∷ gives (plain_test 2 1 (stores 0 x 1 ∷ loads 1 x 0 ∷ [])) (1 ∷ 0 ∷ []) (0 ∷ 1 ∷ [])
    -- a location that nothing writes ends at its initial value
    ∷ gives (valued 1 2 0 (5 ∷ 7 ∷ []) [] (stores 0 x 1 ∷ loads 0 y 0 ∷ [])) (0 ∷ 1 ∷ []) (7 ∷ 1 ∷ 7 ∷ [])
    -- an SC writes what it states
    ∷ gives (plain_test 1 1 (reserved 0 x 0 ∷ conditional 0 x 3 ∷ [])) (0 ∷ 1 ∷ []) (0 ∷ 3 ∷ [])
    ∷ []

-- the first increment and then the second make it true, or not
abbrev first : Condition → Claim
first c = makes increments (0 ∷ 1 ∷ []) c true

abbrev never : Condition → Claim
never c = makes increments (0 ∷ 1 ∷ []) c false

-- "`r3=1` (event 3 returns 1), `x0=2` (location 0 ends at 2)", `not`, `and`, `or`
abbrev pub condition_cases : List Claim
condition_cases =
    first (returns 0 7) ∷ never (returns 0 8) ∷ first (ends 0 9) ∷ never (ends 0 8)
    -- of another order
    ∷ makes increments (1 ∷ 0 ∷ []) (returns 0 7) false
    ∷ makes increments (1 ∷ 0 ∷ []) (returns 0 8) true
    -- not
    ∷ first (negated (returns 0 8)) ∷ never (negated (returns 0 7)) ∷ first (negated (negated (returns 0 7)))
    -- and
    ∷ first (both (returns 0 7) (ends 0 9)) ∷ never (both (returns 0 7) (ends 0 8)) ∷ never (both (returns 0 8) (ends 0 9))
    ∷ never (both (returns 0 8) (ends 0 8))
    -- or
    ∷ first (either (returns 0 7) (ends 0 9)) ∷ first (either (returns 0 7) (ends 0 8)) ∷ first (either (returns 0 8) (ends 0 9))
    ∷ never (either (returns 0 8) (ends 0 8))
    ∷ first (negated (both (returns 1 8) (negated (ends 0 9))))
    ∷ []

-- a store (0), a load (1), a fence (2), an AMO (3), an LR (4) and an SC (5), at two locations
abbrev six_kinds : Table
six_kinds =
    plain_test 1 2 (stores 0 x 1 ∷ loads 0 y 0 ∷ full_fence 0 ∷ swaps 0 x 0 1 ∷ reserved 0 x 0 ∷ conditional 0 x 1 ∷ [])

abbrev unknown : Condition → Claim
unknown c = misnames six_kinds c true

abbrev known : Condition → Claim
known c = misnames six_kinds c false

-- "the condition names an event that doesn't read or a location not in the test"
abbrev pub unknown_cases : List Claim
unknown_cases =
    known (returns 1 0) ∷ known (returns 3 0) ∷ known (returns 4 0)
    -- a store, a fence, an SC, and past the events
    ∷ unknown (returns 0 0) ∷ unknown (returns 2 0) ∷ unknown (returns 5 0) ∷ unknown (returns 6 0) ∷ unknown (returns 255 0)
    -- locations
    ∷ known (ends 0 0) ∷ known (ends 1 0) ∷ unknown (ends 2 0) ∷ unknown (ends 255 0)
    -- anywhere in the condition
    ∷ unknown (negated (returns 0 0)) ∷ known (negated (returns 1 0))
    ∷ unknown (both (returns 1 0) (ends 2 0)) ∷ unknown (both (returns 2 0) (ends 0 0)) ∷ known (both (returns 1 0) (ends 0 0))
    ∷ unknown (either (returns 1 0) (ends 2 0)) ∷ unknown (either (returns 2 0) (ends 0 0))
    ∷ known (either (returns 1 0) (ends 0 0))
    ∷ []

-- three locations, of which only y is touched; a fence's zero byte doesn't touch x
abbrev only_y : Table
only_y = plain_test 1 3 (loads 0 y 0 ∷ full_fence 0 ∷ [])

abbrev unused : Condition → Claim
unused c = leaves_unused only_y c true

abbrev used : Condition → Claim
used c = leaves_unused only_y c false

-- "in texts .. a location named by `x` counts as stated"
abbrev pub unused_cases : List Claim
unused_cases =
    -- one name is too few, and so is the name of what is touched, or of an event
    unused (ends 0 0) ∷ unused (ends 2 0) ∷ unused (ends 1 0) ∷ unused (returns 0 0) ∷ unused (both (returns 0 0) (returns 0 2))
    -- both, by each connective, whatever the values
    ∷ used (both (ends 0 0) (ends 2 0)) ∷ used (both (ends 2 5) (ends 0 5)) ∷ used (either (ends 0 0) (ends 2 0))
    ∷ used (negated (both (ends 0 0) (negated (ends 2 0)))) ∷ used (either (both (ends 0 1) (ends 0 2)) (negated (ends 2 0)))
    ∷ unused (either (both (ends 0 1) (ends 0 2)) (negated (returns 0 2)))
    -- where every location is touched, no name is needed
    ∷ leaves_unused six_kinds (returns 1 0) false
    ∷ []
