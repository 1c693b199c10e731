-- Model 1, RVTSO: "every load or LR behaves as if it had acquire-RCpc, every store or SC release-RCpc, and every AMO acquire-RCsc and
-- release-RCsc, besides what it carries."
use Rattle.std.specs.Prelude.{ℕ, ◌+◌, List, [], ◌∷◌}
use Rattle.table.specs.declared.Event.{Event}
use Rattle.table.specs.declared.Table.{Table}
use Rattle.refusals.specs.Lines.{by_line, by_record}
use Rattle.prefixes.specs.Answer.{found, none_left}
use Rattle.model.specs.Verdict.{allowed, broken_ppo}
use Rattle.model.specs.Claims.{x, y, z, loads, stores, swaps, reserved, conditional, fences, fences_tso, flagged}
use Rattle.model.specs.Claims.{acquire_rcpc, acquire_rcsc, release_rcpc, release_rcsc, plain_test, valued, in_model}
use Rattle.model.specs.Claims.{steady_set, steady, initially, nothing, Claim, all_witnesses, searched, judged, preserved}
use Rattle.model.specs.Claims.{accepts, refuses, accepts_wide, refuses_wide}
use Rattle.model.specs.Cases.{c1, c3, c4}

-- the test in model 1
abbrev tso : Table → Table
tso t = in_model 1 t

-- one hart, so many locations
abbrev program : (locations : ℕ) → List Event → Table
program n es = tso (plain_test 1 n es)

-- one event alone
abbrev alone : Event → Table
alone e = plain_test 1 1 (e ∷ [])

-- an LR, and this event
abbrev after_lr : Event → Table
after_lr e = program 1 (reserved 0 x 0 ∷ e ∷ [])

-- an allowance that no case uses up
abbrev ample : ℕ
ample = 1000000

-- no reader has an entry: rules 2, 3 and 12 hold of no pair
abbrev unread : List ℕ
unread = []

-- load buffering: hart 0 loads x reading 1 (0), stores y=1 (1); hart 1 loads y reading 1 (2), stores x=1 (3)
abbrev load_buffering : Table
load_buffering = plain_test 2 2 (loads 0 x 1 ∷ stores 0 y 1 ∷ loads 1 y 1 ∷ stores 1 x 1 ∷ [])

-- C3 with AMOs in the place of its stores
abbrev amo_buffering : Table
amo_buffering = plain_test 2 2 (swaps 0 x 0 1 ∷ loads 0 y 0 ∷ swaps 1 y 0 1 ∷ loads 1 x 0 ∷ [])

-- the orders with 1 before 2 and 3 before 0
abbrev crossing : List (List ℕ)
crossing =
    (1 ∷ 2 ∷ 3 ∷ 0 ∷ []) ∷ (1 ∷ 3 ∷ 0 ∷ 2 ∷ []) ∷ (1 ∷ 3 ∷ 2 ∷ 0 ∷ []) ∷ (3 ∷ 0 ∷ 1 ∷ 2 ∷ []) ∷ (3 ∷ 1 ∷ 0 ∷ 2 ∷ [])
    ∷ (3 ∷ 1 ∷ 2 ∷ 0 ∷ []) ∷ []

abbrev pub tso_cases : List Claim
tso_cases =
    -- store buffering is allowed: nothing puts a store before a load of another location
    all_witnesses (tso c3) crossing
    ∷ searched (tso c3) [] ample (found (1 ∷ 2 ∷ 3 ∷ 0 ∷ []) 27)
    -- message passing is forbidden, by rule 6 of the stores and rule 5 of the loads; in model 0 it is allowed
    ∷ all_witnesses (tso c1) []
    ∷ searched (tso c1) [] ample (none_left 18)
    ∷ all_witnesses c1 crossing
    ∷ judged (tso c1) (nothing ∷ nothing ∷ 1 ∷ initially ∷ []) (1 ∷ 2 ∷ 3 ∷ 0 ∷ []) (broken_ppo 0 1 (6 ∷ []))
    ∷ judged c1 (nothing ∷ nothing ∷ 1 ∷ initially ∷ []) (1 ∷ 2 ∷ 3 ∷ 0 ∷ []) allowed
    -- so does load buffering differ, and store buffering by AMOs
    ∷ all_witnesses (tso load_buffering) []
    ∷ searched (tso load_buffering) [] ample (none_left 18)
    ∷ all_witnesses load_buffering crossing
    ∷ all_witnesses (tso amo_buffering) []
    ∷ searched (tso amo_buffering) [] ample (none_left 18)
    ∷ all_witnesses amo_buffering crossing
    -- a load may still return from its hart's store before this is in the order
    ∷ all_witnesses (tso (c4 1)) ((0 ∷ 1 ∷ []) ∷ (1 ∷ 0 ∷ []) ∷ [])
    ∷ []

abbrev pub tso_rule_cases : List Claim
tso_rule_cases =
    -- "every load .. acquire-RCpc", "every store .. release-RCpc"
    preserved (program 2 (loads 0 x 0 ∷ loads 0 y 0 ∷ [])) unread (steady 5 0 1 ∷ [])
    ∷ preserved (program 2 (loads 0 x 0 ∷ stores 0 y 1 ∷ [])) unread (steady_set 0 1 (5 ∷ 6 ∷ []) ∷ [])
    ∷ preserved (program 2 (stores 0 x 1 ∷ loads 0 y 0 ∷ [])) unread []
    ∷ preserved (program 2 (stores 0 x 1 ∷ stores 0 y 1 ∷ [])) unread (steady 6 0 1 ∷ [])
    -- "or LR", "or SC"
    ∷ preserved (program 3 (stores 0 y 1 ∷ reserved 0 x 0 ∷ conditional 0 x 1 ∷ loads 0 z 0 ∷ [])) unread
    (steady 6 0 2 ∷ steady_set 1 2 (1 ∷ 5 ∷ 6 ∷ 8 ∷ []) ∷ steady 5 1 3 ∷ [])
    -- "every AMO acquire-RCsc and release-RCsc"
    ∷ preserved (program 2 (swaps 0 x 0 1 ∷ loads 0 y 0 ∷ [])) unread (steady 5 0 1 ∷ [])
    ∷ preserved (program 2 (stores 0 x 1 ∷ swaps 0 y 0 1 ∷ [])) unread (steady 6 0 1 ∷ [])
    ∷ preserved (program 2 (swaps 0 x 0 1 ∷ swaps 0 y 0 1 ∷ [])) unread (steady_set 0 1 (5 ∷ 6 ∷ 7 ∷ []) ∷ [])
    ∷ preserved (program 2 (swaps 0 x 0 1 ∷ flagged acquire_rcsc (loads 0 y 0) ∷ [])) unread (steady_set 0 1 (5 ∷ 7 ∷ []) ∷ [])
    ∷ preserved (program 2 (flagged release_rcsc (stores 0 x 1) ∷ swaps 0 y 0 1 ∷ [])) unread (steady_set 0 1 (6 ∷ 7 ∷ []) ∷ [])
    -- those of loads and stores aren't RCsc
    ∷ preserved (program 2 (stores 0 x 1 ∷ flagged acquire_rcsc (loads 0 y 0) ∷ [])) unread []
    ∷ preserved (program 2 (flagged release_rcsc (stores 0 x 1) ∷ loads 0 y 0 ∷ [])) unread []
    -- "besides what it carries": of a store and a load; what is carried doesn't keep off what is added
    ∷ preserved (program 2 (flagged release_rcsc (stores 0 x 1) ∷ flagged acquire_rcsc (loads 0 y 0) ∷ [])) unread (steady 7 0 1 ∷ [])
    ∷ preserved (program 2 (flagged (acquire_rcpc + release_rcpc) (stores 0 x 1) ∷ loads 0 y 0 ∷ [])) unread (steady 5 0 1 ∷ [])
    ∷ preserved (program 2 (stores 0 x 1 ∷ flagged (acquire_rcpc + release_rcpc) (loads 0 y 0) ∷ [])) unread (steady 6 0 1 ∷ [])
    ∷ preserved (program 2 (flagged release_rcpc (swaps 0 x 0 1) ∷ loads 0 y 0 ∷ [])) unread (steady 5 0 1 ∷ [])
    ∷ preserved (program 2 (stores 0 x 1 ∷ flagged acquire_rcpc (swaps 0 y 0 1) ∷ [])) unread (steady 6 0 1 ∷ [])
    -- a fence has its own bits alone
    ∷ preserved (program 2 (stores 0 x 1 ∷ fences 0 0 ∷ loads 0 y 0 ∷ [])) unread []
    ∷ preserved (program 2 (stores 0 x 1 ∷ fences_tso 0 ∷ loads 0 y 0 ∷ [])) unread []
    ∷ preserved (program 2 (stores 0 x 1 ∷ fences 0 6 ∷ loads 0 y 0 ∷ [])) unread (steady 4 0 2 ∷ [])
    -- two harts
    ∷ preserved (tso (plain_test 2 2 (loads 0 x 0 ∷ stores 1 y 1 ∷ []))) unread []
    ∷ []

abbrev pub tso_line_cases : List Claim
tso_line_cases =
    -- "Header byte 9 becomes the model, 0 or 1; others are refusal 5"
    accepts (tso (alone (loads 0 x 0)))
    ∷ refuses (by_line 5) (in_model 2 (alone (loads 0 x 0)))
    ∷ refuses (by_line 5) (in_model 255 (alone (loads 0 x 0)))
    ∷ accepts_wide (tso (alone (loads 0 x 0)))
    ∷ refuses_wide (by_line 5) (in_model 2 (alone (loads 0 x 0)))
    -- 5 before 6
    ∷ refuses (by_line 5) (in_model 2 (valued 1 1 0 (0 ∷ 5 ∷ []) [] (loads 0 x 0 ∷ [])))
    -- line 8 looks at what is carried: the acquire or release that the model adds doesn't stand by the one carried
    ∷ refuses (by_record 8 0) (tso (alone (flagged release_rcpc (loads 0 x 0))))
    ∷ refuses (by_record 8 0) (tso (alone (flagged release_rcsc (reserved 0 x 0))))
    ∷ refuses (by_record 8 0) (tso (alone (flagged acquire_rcpc (stores 0 x 1))))
    ∷ refuses (by_record 8 1) (after_lr (flagged acquire_rcsc (conditional 0 x 1)))
    -- nor is it both at once with the one carried
    ∷ accepts (tso (alone (flagged acquire_rcsc (loads 0 x 0))))
    ∷ accepts (tso (alone (flagged acquire_rcsc (reserved 0 x 0))))
    ∷ accepts (tso (alone (flagged release_rcsc (stores 0 x 1))))
    ∷ accepts (after_lr (flagged release_rcsc (conditional 0 x 1)))
    ∷ accepts (tso (alone (flagged (acquire_rcpc + release_rcpc) (swaps 0 x 0 1))))
    ∷ []
