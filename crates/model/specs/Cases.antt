-- "Litmus tests worked by hand": C1 to C10, and every fact that is stated of them. x, y are locations 0, 1, initially 0.
use Rattle.std.specs.Prelude.{ℕ, List, [], ◌∷◌}
use Rattle.table.specs.declared.Table.{Table}
use Rattle.prefixes.specs.Answer.{found, none_left, spent}
use Rattle.model.specs.Verdict.{allowed, broken_ppo, broken_atomicity}
use Rattle.model.specs.Claims.{x, y, loads, stores, swaps, reserved, conditional, full_fence, flagged, address_on, control_on, event3}
use Rattle.model.specs.Claims.{unannotated, acquire_rcpc, acquire_rcsc, release_rcpc, release_rcsc, plain_test, valued}
use Rattle.model.specs.Claims.{initially, nothing, Claim, all_witnesses, searched, judged, ruled}

-- "C1: hart 0 stores x=1 (0), y=1 (1); hart 1 loads y reading 1 (2), x reading 0 (3)."
abbrev pub c1 : Table
c1 = plain_test 2 2 (stores 0 x 1 ∷ stores 0 y 1 ∷ loads 1 y 1 ∷ loads 1 x 0 ∷ [])

-- "C2: C1 with a fence of all four bits between each hart's accesses"
abbrev pub c2 : Table
c2 = plain_test 2 2 (stores 0 x 1 ∷ full_fence 0 ∷ stores 0 y 1 ∷ loads 1 y 1 ∷ full_fence 1 ∷ loads 1 x 0 ∷ [])

-- "C3: stores x=1 (0) then loads y reading 0 (1); stores y=1 (2) then loads x reading 0 (3)."
abbrev pub c3 : Table
c3 = plain_test 2 2 (stores 0 x 1 ∷ loads 0 y 0 ∷ stores 1 y 1 ∷ loads 1 x 0 ∷ [])

-- "C4: one hart stores x=1, loads x reading 1." "Reading 0"
abbrev pub c4 : (read : ℕ) → Table
c4 r = plain_test 1 1 (stores 0 x 1 ∷ loads 0 x r ∷ [])

-- "C5: AMO x reading 0 writing 1, then load reading 1."
abbrev pub c5 : Table
c5 = plain_test 1 1 (swaps 0 x 0 1 ∷ loads 0 x 1 ∷ [])

-- "C6: hart 0 stores x=1; hart 1 loads x reading 1, then 0."
abbrev pub c6 : Table
c6 = plain_test 2 1 (stores 0 x 1 ∷ loads 1 x 1 ∷ loads 1 x 0 ∷ [])

-- "C7: hart 0 LR x reading 0 (0), SC x=1 (1); hart 1 stores x=2 (2)." with the stated final value
abbrev pub c7 : (final : ℕ) → Table
c7 f = valued 2 1 1 [] (f ∷ []) (reserved 0 x 0 ∷ conditional 0 x 1 ∷ stores 1 x 2 ∷ [])

-- "C8: LR x reading 0, store x=2, SC x=1, one hart, final 1"
abbrev pub c8 : Table
c8 = valued 1 1 1 [] (1 ∷ []) (reserved 0 x 0 ∷ stores 0 x 2 ∷ conditional 0 x 1 ∷ [])

-- "C9: C1 with a full fence between the stores (so stores 0, 2; loads 3, 4)", load 4 with the masks given
abbrev c9 : (addr ctrl : ℕ) → Table
c9 a c = plain_test 2 2 (stores 0 x 1 ∷ full_fence 0 ∷ stores 0 y 1 ∷ loads 1 y 1 ∷ address_on a (control_on c (loads 1 x 0)) ∷ [])

-- "load 4 control-dependent on 3"
abbrev pub c9control : Table
c9control = c9 0 event3

-- "Address-dependent"
abbrev pub c9address : Table
c9address = c9 event3 0

-- "C10: one load x reading 0"
abbrev pub c10 : Table
c10 = plain_test 1 1 (loads 0 x 0 ∷ [])

-- an AMO with release-RCpc alone: hart 0 stores x=1 (0), AMO y reading 0 writing 1 (1) with the flags given; hart 1 loads y
-- reading 1 (2) with acquire-RCpc, x reading 0 (3)
abbrev pub amo_passes : (flags : ℕ) → Table
amo_passes f = plain_test 2 2 (stores 0 x 1 ∷ flagged f (swaps 0 y 0 1) ∷ flagged acquire_rcpc (loads 1 y 1) ∷ loads 1 x 0 ∷ [])

-- an AMO with release-RCsc alone: hart 0 AMO x reading 0 writing 1 (0) with the flags given, loads y reading 0 (1) with
-- acquire-RCsc; hart 1 AMO y (2) and loads x (3) likewise
abbrev pub amo_stores : (flags : ℕ) → Table
amo_stores f =
    plain_test 2 2
    (flagged f (swaps 0 x 0 1) ∷ flagged acquire_rcsc (loads 0 y 0) ∷ flagged f (swaps 1 y 0 1)
    ∷ flagged acquire_rcsc (loads 1 x 0) ∷ [])

-- an allowance that no case uses up
abbrev ample : ℕ
ample = 1000000

abbrev pub litmus_cases : List Claim
litmus_cases =
    -- "Witnesses: 1230, 1302, 1320, 3012, 3102, 3120. First: 27 visited. After 3120: none left, 5 visited."
    all_witnesses c1
    ((1 ∷ 2 ∷ 3 ∷ 0 ∷ []) ∷ (1 ∷ 3 ∷ 0 ∷ 2 ∷ []) ∷ (1 ∷ 3 ∷ 2 ∷ 0 ∷ []) ∷ (3 ∷ 0 ∷ 1 ∷ 2 ∷ []) ∷ (3 ∷ 1 ∷ 0 ∷ 2 ∷ [])
    ∷ (3 ∷ 1 ∷ 2 ∷ 0 ∷ []) ∷ [])
    ∷ searched c1 [] ample (found (1 ∷ 2 ∷ 3 ∷ 0 ∷ []) 27)
    ∷ searched c1 (3 ∷ 1 ∷ 2 ∷ 0 ∷ []) ample (none_left 5)
    -- "None left, 18 visited."
    ∷ all_witnesses c2 []
    ∷ searched c2 [] ample (none_left 18)
    -- "First 1230, 27 visited."
    ∷ searched c3 [] ample (found (1 ∷ 2 ∷ 3 ∷ 0 ∷ []) 27)
    -- "Witnesses 01 and 10. Reading 0: none left, 4 visited."
    ∷ all_witnesses (c4 1) ((0 ∷ 1 ∷ []) ∷ (1 ∷ 0 ∷ []) ∷ [])
    ∷ all_witnesses (c4 0) []
    ∷ searched (c4 0) [] ample (none_left 4)
    -- "Only 01. Order 10, returned list 255, 0: preserved order, pair 0, 1", where "the set is rules 2 and 3"
    ∷ all_witnesses c5 ((0 ∷ 1 ∷ []) ∷ [])
    ∷ judged c5 (initially ∷ 0 ∷ []) (1 ∷ 0 ∷ []) (broken_ppo 0 1 (2 ∷ 3 ∷ []))
    ∷ ruled c5 (initially ∷ 0 ∷ []) 0 1 (2 ∷ 3 ∷ [])
    -- "None left, 15 visited."
    ∷ all_witnesses c6 []
    ∷ searched c6 [] ample (none_left 15)
    -- "Final x=1: none left, 8 visited. Final 2: 012, 3 visited. Order 021, list 255, 254, 254: atomicity, LR 0, writer 2."
    ∷ all_witnesses (c7 1) []
    ∷ searched (c7 1) [] ample (none_left 8)
    ∷ searched (c7 2) [] ample (found (0 ∷ 1 ∷ 2 ∷ []) 3)
    ∷ judged (c7 1) (initially ∷ nothing ∷ nothing ∷ []) (0 ∷ 2 ∷ 1 ∷ []) (broken_atomicity 0 2)
    ∷ judged (c7 2) (initially ∷ nothing ∷ nothing ∷ []) (0 ∷ 2 ∷ 1 ∷ []) (broken_atomicity 0 2)
    -- "final 1: 012"
    ∷ all_witnesses c8 ((0 ∷ 1 ∷ 2 ∷ []) ∷ [])
    -- "only 4023. Address-dependent: none left, 18 visited."
    ∷ all_witnesses c9control ((4 ∷ 0 ∷ 2 ∷ 3 ∷ []) ∷ [])
    ∷ all_witnesses c9address []
    ∷ searched c9address [] ample (none_left 18)
    -- "0, 1 visited"
    ∷ all_witnesses c10 ((0 ∷ []) ∷ [])
    ∷ searched c10 [] ample (found (0 ∷ []) 1)
    -- "C1 with allowance 26 is spent at prefix 123. Allowance 0 from the empty start is spent, 0 visited; after 3210 it is
    -- none left, 0 visited."
    ∷ searched c1 [] 26 (spent (1 ∷ 2 ∷ 3 ∷ []) 26)
    ∷ searched c1 [] 0 (spent [] 0)
    ∷ searched c1 (3 ∷ 2 ∷ 1 ∷ 0 ∷ []) 0 (none_left 0)
    -- With release-RCpc alone rule 6 orders 0 before 1, and nothing is left; without it 1230 is the only witness.
    ∷ judged (amo_passes release_rcpc) (nothing ∷ initially ∷ 1 ∷ initially ∷ []) (1 ∷ 2 ∷ 3 ∷ 0 ∷ []) (broken_ppo 0 1 (6 ∷ []))
    ∷ judged (amo_passes unannotated) (nothing ∷ initially ∷ 1 ∷ initially ∷ []) (1 ∷ 2 ∷ 3 ∷ 0 ∷ []) allowed
    ∷ all_witnesses (amo_passes release_rcpc) []
    ∷ searched (amo_passes release_rcpc) [] ample (none_left 18)
    ∷ all_witnesses (amo_passes unannotated) ((1 ∷ 2 ∷ 3 ∷ 0 ∷ []) ∷ [])
    ∷ searched (amo_passes unannotated) [] ample (found (1 ∷ 2 ∷ 3 ∷ 0 ∷ []) 18)
    ∷ searched (amo_passes unannotated) (1 ∷ 2 ∷ 3 ∷ 0 ∷ []) ample (none_left 16)
    -- With release-RCsc alone rule 7 orders 0 before 1 and 2 before 3, and nothing is left; without it C3's orders are witnesses.
    ∷ judged (amo_stores release_rcsc) (initially ∷ initially ∷ initially ∷ initially ∷ []) (1 ∷ 2 ∷ 3 ∷ 0 ∷ [])
    (broken_ppo 0 1 (7 ∷ []))
    ∷ judged (amo_stores unannotated) (initially ∷ initially ∷ initially ∷ initially ∷ []) (1 ∷ 2 ∷ 3 ∷ 0 ∷ []) allowed
    ∷ all_witnesses (amo_stores release_rcsc) []
    ∷ searched (amo_stores release_rcsc) [] ample (none_left 18)
    ∷ searched (amo_stores unannotated) [] ample (found (1 ∷ 2 ∷ 3 ∷ 0 ∷ []) 27)
    ∷ searched (amo_stores unannotated) (3 ∷ 1 ∷ 2 ∷ 0 ∷ []) ample (none_left 5)
    ∷ []
