-- "A search that gives up early", clause by clause: what is settled in a prefix, which prefixes are spoiled, which the second
-- engine visits. The values were worked by hand; the numbers of C1 to C6 were counted by an independent program too.
use Rattle.std.specs.Prelude.{ℕ, true, false, List, [], ◌∷◌}
use Rattle.table.specs.declared.Event.{Event}
use Rattle.table.specs.declared.Table.{Table}
use Rattle.prefixes.specs.Answer.{found, none_left, spent}
use Rattle.model.specs.Claims.{x, y, loads, stores, swaps, reserved, plain_test, touching, valued, initially}
use Rattle.model.specs.Claims.{Claim, settles, spoils, visits, all_visited, visited_count, searched_pruned}
use Rattle.model.specs.Cases.{c1, c2, c3, c4, c5, c6}

-- three harts, zero initial values
abbrev program : List Event → Table
program es = plain_test 3 (touching es) es

-- store x (0) and load x (1) on hart 0; store x (2) on hart 1
abbrev forwarded : Table
forwarded = program (stores 0 x 1 ∷ loads 0 x 1 ∷ stores 1 x 2 ∷ [])

-- two stores x (0, 1), then a load x (2), on one hart
abbrev stored_twice : Table
stored_twice = program (stores 0 x 1 ∷ stores 0 x 2 ∷ loads 0 x 2 ∷ [])

-- a store x on hart 0 (0) and one on hart 1 (1), a load x on hart 2 (2)
abbrev stored_apart : Table
stored_apart = program (stores 0 x 1 ∷ stores 1 x 2 ∷ loads 2 x 1 ∷ [])

-- "In a clean prefix, a listed reader's return is settled: from its hart's latest earlier writer to that location that isn't
-- listed before the reader, if there is one; otherwise from the last writer to it listed before the reader, or the initial
-- write."
abbrev pub settled_cases : List Claim
settled_cases =
    -- an own writer that isn't listed, also where another writer is; nor does it count as listed if it is so after the reader
    settles forwarded (1 ∷ []) 1 0
    ∷ settles forwarded (2 ∷ 1 ∷ []) 1 0
    ∷ settles forwarded (1 ∷ 0 ∷ []) 1 0
    ∷ settles forwarded (2 ∷ 1 ∷ 0 ∷ []) 1 0
    -- the latest of them
    ∷ settles stored_twice (2 ∷ []) 2 1
    ∷ settles stored_twice (0 ∷ 2 ∷ []) 2 1
    ∷ settles stored_twice (0 ∷ 1 ∷ 2 ∷ []) 2 1
    -- where all own writers are listed before the reader, the last writer that is, own or not
    ∷ settles forwarded (0 ∷ 1 ∷ []) 1 0
    ∷ settles forwarded (0 ∷ 2 ∷ 1 ∷ []) 1 2
    ∷ settles forwarded (2 ∷ 0 ∷ 1 ∷ []) 1 0
    -- the last in the prefix, not the highest number; none behind the reader
    ∷ settles stored_apart (1 ∷ 0 ∷ 2 ∷ []) 2 0
    ∷ settles stored_apart (0 ∷ 1 ∷ 2 ∷ []) 2 1
    ∷ settles stored_apart (0 ∷ 2 ∷ 1 ∷ []) 2 0
    -- the initial write: another hart's writer isn't listed before the reader
    ∷ settles stored_apart (2 ∷ []) 2 initially
    ∷ settles stored_apart (2 ∷ 0 ∷ []) 2 initially
    -- an own later writer; another location; a load is no writer
    ∷ settles (program (loads 0 x 0 ∷ stores 0 x 1 ∷ [])) (0 ∷ []) 0 initially
    ∷ settles (program (loads 0 x 0 ∷ stores 0 x 1 ∷ [])) (0 ∷ 1 ∷ []) 0 initially
    ∷ settles (program (stores 0 y 1 ∷ loads 0 x 0 ∷ [])) (1 ∷ []) 1 initially
    ∷ settles (program (stores 0 y 1 ∷ loads 0 x 0 ∷ [])) (0 ∷ 1 ∷ []) 1 initially
    ∷ settles (program (loads 0 x 0 ∷ loads 0 x 0 ∷ [])) (1 ∷ []) 1 initially
    ∷ settles (program (loads 0 x 0 ∷ loads 0 x 0 ∷ [])) (0 ∷ 1 ∷ []) 1 initially
    -- an AMO reads and writes, and never returns from itself; an LR reads
    ∷ settles c5 (0 ∷ []) 0 initially
    ∷ settles c5 (1 ∷ []) 1 0
    ∷ settles (program (swaps 0 x 0 1 ∷ swaps 0 x 1 2 ∷ [])) (0 ∷ 1 ∷ []) 1 0
    ∷ settles (program (stores 0 x 1 ∷ reserved 0 x 1 ∷ [])) (1 ∷ []) 1 0
    ∷ []

-- "The prefix is spoiled if a settled value differs from the stated one."
abbrev pub spoiled_cases : List Claim
spoiled_cases =
    -- what an own writer that isn't listed, a listed one, or the initial write leaves
    spoils (c4 0) (1 ∷ []) true
    ∷ spoils (c4 1) (1 ∷ []) false
    ∷ spoils (c4 0) (0 ∷ 1 ∷ []) true
    ∷ spoils (c4 1) (0 ∷ 1 ∷ []) false
    ∷ spoils (valued 1 2 1 (5 ∷ 7 ∷ []) (5 ∷ []) (loads 0 y 7 ∷ [])) (0 ∷ []) false
    ∷ spoils (valued 1 2 1 (5 ∷ 7 ∷ []) (5 ∷ []) (loads 0 y 5 ∷ [])) (0 ∷ []) true
    -- one of two readers is enough, wherever it stands; one that isn't listed doesn't count
    ∷ spoils c6 (0 ∷ []) false
    ∷ spoils c6 (0 ∷ 1 ∷ []) false
    ∷ spoils c6 (0 ∷ 1 ∷ 2 ∷ []) true
    ∷ spoils c6 (1 ∷ 2 ∷ []) true
    ∷ spoils c6 (2 ∷ 0 ∷ 1 ∷ []) false
    ∷ spoils (c4 0) [] false
    -- a store reads nothing
    ∷ spoils (program (stores 0 x 1 ∷ stores 1 x 2 ∷ [])) (0 ∷ 1 ∷ []) false
    ∷ []

-- an allowance that no case uses up
abbrev ample : ℕ
ample = 1000000

-- "The second engine visits only those clean prefixes none of whose proper prefixes is spoiled; its allowance, its count .. read
-- over that list"
abbrev pub pruned_cases : List Claim
pruned_cases =
    -- a spoiled prefix is visited itself, what extends it isn't, by one event or more
    visits (c4 0) (1 ∷ []) true
    ∷ visits (c4 0) (1 ∷ 0 ∷ []) false
    ∷ visits (c4 1) (1 ∷ 0 ∷ []) true
    ∷ visits c6 (1 ∷ []) true
    ∷ visits c6 (1 ∷ 0 ∷ []) false
    ∷ visits c6 (1 ∷ 0 ∷ 2 ∷ []) false
    ∷ visits c6 [] true
    -- one that isn't clean isn't either
    ∷ visits c2 (2 ∷ []) false
    -- C1, C2, C3
    ∷ visited_count c1 34
    ∷ searched_pruned c1 [] ample (found (1 ∷ 2 ∷ 3 ∷ 0 ∷ []) 17)
    ∷ searched_pruned c1 [] 16 (spent (1 ∷ 2 ∷ 3 ∷ []) 16)
    ∷ searched_pruned c1 (1 ∷ 2 ∷ 3 ∷ 0 ∷ []) ample (found (1 ∷ 3 ∷ 0 ∷ 2 ∷ []) 3)
    ∷ searched_pruned c1 (3 ∷ 1 ∷ 2 ∷ 0 ∷ []) ample (none_left 1)
    ∷ all_visited c2 ((0 ∷ []) ∷ (0 ∷ 2 ∷ []) ∷ (0 ∷ 2 ∷ 3 ∷ []) ∷ (0 ∷ 2 ∷ 3 ∷ 5 ∷ []) ∷ (0 ∷ 3 ∷ []) ∷ (3 ∷ []) ∷ [])
    ∷ searched_pruned c2 [] ample (none_left 6)
    ∷ visited_count c3 48
    ∷ searched_pruned c3 [] ample (found (1 ∷ 2 ∷ 3 ∷ 0 ∷ []) 19)
    -- C4
    ∷ all_visited (c4 1) ((0 ∷ []) ∷ (0 ∷ 1 ∷ []) ∷ (1 ∷ []) ∷ (1 ∷ 0 ∷ []) ∷ [])
    ∷ all_visited (c4 0) ((0 ∷ []) ∷ (0 ∷ 1 ∷ []) ∷ (1 ∷ []) ∷ [])
    ∷ searched_pruned (c4 0) [] ample (none_left 3)
    -- C6: 201 isn't spoiled, but no witness
    ∷ all_visited c6
    ((0 ∷ []) ∷ (0 ∷ 1 ∷ []) ∷ (0 ∷ 1 ∷ 2 ∷ []) ∷ (0 ∷ 2 ∷ []) ∷ (1 ∷ []) ∷ (2 ∷ []) ∷ (2 ∷ 0 ∷ []) ∷ (2 ∷ 0 ∷ 1 ∷ [])
    ∷ (2 ∷ 1 ∷ []) ∷ [])
    ∷ searched_pruned c6 [] ample (none_left 9)
    ∷ []
