-- "When the bench declines a table": lines 5 to 11 and 21, each clause for each kind, with what is accepted beside it; line 7 also of
-- texts.
use Rattle.std.specs.Prelude.{ℕ, max, ◌+◌, ◌^◌, List, [], ◌∷◌, ◌++◌, map, replicate}
use Rattle.lists.specs.Below.{below}
use Rattle.table.specs.declared.Event.{Event}
use Rattle.table.specs.declared.Table.{Table}
use Rattle.refusals.specs.Lines.{by_line, by_record}
use Rattle.model.specs.Claims.{x, y, access, blank_event, loads, stores, swaps, reserved, conditional, fences, full_fence, fences_tso}
use Rattle.model.specs.Claims.{flagged, address_on, data_on, control_on, operated, event0, event1, event2}
use Rattle.model.specs.Claims.{acquire_rcpc, acquire_rcsc, release_rcpc, release_rcsc, filled, plain_test, valued}
use Rattle.model.specs.Claims.{Claim, accepts, refuses, refuses_with_bytes, accepts_wide, refuses_wide}
use Rattle.model.specs.Claims.{accepts_text, refuses_text}

-- two harts, two locations, whose final values are stated, so that it doesn't matter whether an event touches them
abbrev program : List Event → Table
program es = valued 2 2 3 [] [] es

-- a load of each of n locations
abbrev loads_of : ℕ → List Event
loads_of n = map (λ k. loads 0 k 0) (below n)

-- one event alone
abbrev alone : Event → Table
alone e = program (e ∷ [])

-- a load before it
abbrev second : Event → Table
second e = program (loads 0 x 0 ∷ e ∷ [])

-- 29 loads before it
abbrev thirtieth : Event → Table
thirtieth e = plain_test 1 1 (replicate 29 (loads 0 x 0) ++ (e ∷ []))

-- an LR before it
abbrev second_of_pair : Event → Table
second_of_pair e = program (reserved 0 x 0 ∷ e ∷ [])

-- so many harts and locations, each loaded, this mask of final values
abbrev headed : (harts locations stated : ℕ) → Table
headed h l s = valued h l s [] [] (loads_of (max 1 l))

-- "harts, locations or events out of range, or the final mask names a location not in the test"
abbrev pub line5_cases : List Claim
line5_cases =
    -- "16 events pass, 17 refuse by 5."
    accepts (plain_test 1 1 (replicate 16 (loads 0 x 0)))
    ∷ accepts (headed 1 1 0)
    ∷ accepts (headed 4 8 0)
    ∷ refuses (by_line 5) (plain_test 1 1 (replicate 17 (loads 0 x 0)))
    ∷ refuses (by_line 5) (plain_test 1 1 [])
    ∷ refuses (by_line 5) (headed 0 1 0)
    ∷ refuses (by_line 5) (headed 5 1 0)
    ∷ refuses (by_line 5) (headed 1 0 0)
    ∷ refuses (by_line 5) (headed 1 9 0)
    -- "Events run from 1 to 30; edition 1 keeps 16."
    ∷ accepts_wide (plain_test 1 1 (replicate 1 (loads 0 x 0)))
    ∷ accepts_wide (plain_test 1 1 (replicate 17 (loads 0 x 0)))
    ∷ accepts_wide (plain_test 1 1 (replicate 30 (loads 0 x 0)))
    ∷ refuses_wide (by_line 5) (plain_test 1 1 (replicate 31 (loads 0 x 0)))
    ∷ refuses_wide (by_line 5) (plain_test 1 1 [])
    -- the mask: bit k names location k
    ∷ accepts (headed 1 1 1)
    ∷ accepts (headed 1 2 2)
    ∷ accepts (headed 1 8 128)
    ∷ accepts (headed 1 8 255)
    ∷ refuses (by_line 5) (headed 1 1 2)
    ∷ refuses (by_line 5) (headed 1 2 4)
    ∷ refuses (by_line 5) (headed 1 7 128)
    ∷ refuses (by_line 5) (headed 1 1 255)
    ∷ []

-- one event, and these in the slots from the first on
abbrev one_of : List Event → Table
one_of es =
    record {
      harts = 1;
      locations = 1;
      count = 1;
      stated = 0;
      model = 0;
      initial = replicate 8 0;
      events = filled 32 blank_event es;
      finals = replicate 8 0;
    }

-- an event past the one event, and in the last slot
abbrev past : Event → Table
past e = one_of (loads 0 x 0 ∷ e ∷ [])

abbrev past_all : Event → Table
past_all e = one_of (filled 31 blank_event (loads 0 x 0 ∷ []) ++ (e ∷ []))

-- "initial values of locations not in the test, final values not stated, records past the events"
abbrev pub line6_cases : List Claim
line6_cases =
    accepts (valued 1 1 0 (5 ∷ []) [] (loads 0 x 0 ∷ []))
    ∷ accepts (valued 1 8 0 (replicate 8 5) [] (loads_of 8))
    ∷ refuses (by_line 6) (valued 1 1 0 (0 ∷ 5 ∷ []) [] (loads 0 x 0 ∷ []))
    ∷ refuses (by_line 6) (valued 1 7 0 (replicate 8 5) [] (loads 0 x 0 ∷ []))
    -- a final value that isn't stated, also of a location in the test
    ∷ accepts (valued 1 2 1 [] (5 ∷ []) (loads_of 2))
    ∷ accepts (valued 1 2 2 [] (0 ∷ 5 ∷ []) (loads 0 x 0 ∷ []))
    ∷ accepts (valued 1 8 128 [] (0 ∷ 0 ∷ 0 ∷ 0 ∷ 0 ∷ 0 ∷ 0 ∷ 5 ∷ []) (loads_of 8))
    ∷ refuses (by_line 6) (valued 1 2 0 [] (5 ∷ []) (loads 0 x 0 ∷ []))
    ∷ refuses (by_line 6) (valued 1 2 1 [] (0 ∷ 5 ∷ []) (loads 0 x 0 ∷ []))
    ∷ refuses (by_line 6) (valued 1 2 2 [] (5 ∷ []) (loads 0 x 0 ∷ []))
    ∷ refuses (by_line 6) (valued 1 8 0 [] (0 ∷ 0 ∷ 0 ∷ 0 ∷ 0 ∷ 0 ∷ 0 ∷ 5 ∷ []) (loads 0 x 0 ∷ []))
    -- each field of a record past the events
    ∷ accepts (past blank_event)
    ∷ accepts (past_all blank_event)
    ∷ refuses (by_line 6) (past (access 1 0 0 0 0))
    ∷ refuses (by_line 6) (past (access 0 1 0 0 0))
    ∷ refuses (by_line 6) (past (access 0 0 1 0 0))
    ∷ refuses (by_line 6) (past (access 0 0 0 1 0))
    ∷ refuses (by_line 6) (past (access 0 0 0 0 1))
    ∷ refuses (by_line 6) (past (flagged 1 blank_event))
    ∷ refuses (by_line 6) (past (address_on 1 blank_event))
    ∷ refuses (by_line 6) (past (data_on 1 blank_event))
    ∷ refuses (by_line 6) (past (control_on 1 blank_event))
    ∷ refuses (by_line 6) (past (operated 1 0 blank_event))
    ∷ refuses (by_line 6) (past (operated 0 1 blank_event))
    ∷ refuses (by_line 6) (past_all (loads 0 x 0))
    -- bytes that are no field
    ∷ refuses_with_bytes (by_line 6) (headed 1 1 0)
    ∷ refuses_with_bytes (by_line 5) (headed 0 1 0)
    ∷ []

-- an AMO with an operation ("0 none, 1 add, 2 and, 3 or, 4 exclusive or, 5 larger, 6 smaller"), the value read, the operand and the
-- value written
abbrev operates : (operation read operand written : ℕ) → Table
operates o r n w = alone (operated o n (swaps 0 x r w))

-- "kind, hart, location or flags out of range; a non-reader with a value read or a non-writer with a value written that isn't zero;
-- a fence with location or mask not zero; flags on fence.tso"
abbrev pub line7_cases : List Claim
line7_cases =
    -- each kind, on the last hart and at the last location
    accepts (alone (loads 1 y 5))
    ∷ accepts (alone (stores 1 y 5))
    ∷ accepts (alone (swaps 1 y 5 6))
    ∷ accepts (alone (reserved 1 y 5))
    ∷ accepts (program (reserved 1 y 0 ∷ conditional 1 y 5 ∷ []))
    ∷ accepts (second (fences 1 15))
    ∷ accepts (second (fences 0 0))
    ∷ accepts (second (fences_tso 1))
    -- kind
    ∷ refuses (by_record 7 0) (alone (access 0 0 0 0 0))
    ∷ refuses (by_record 7 0) (alone (access 8 0 0 0 0))
    ∷ refuses (by_record 7 0) (alone (access 255 0 0 0 0))
    -- hart
    ∷ refuses (by_record 7 1) (second (loads 2 x 0))
    ∷ refuses (by_record 7 1) (second (stores 2 x 1))
    ∷ refuses (by_record 7 1) (second (swaps 2 x 0 1))
    ∷ refuses (by_record 7 1) (second (reserved 2 x 0))
    ∷ refuses (by_record 7 1) (second_of_pair (conditional 2 x 1))
    ∷ refuses (by_record 7 1) (second (fences 2 0))
    ∷ refuses (by_record 7 1) (second (fences_tso 2))
    -- location
    ∷ refuses (by_record 7 1) (second (loads 0 2 0))
    ∷ refuses (by_record 7 1) (second (stores 0 2 1))
    ∷ refuses (by_record 7 1) (second (swaps 0 2 0 1))
    ∷ refuses (by_record 7 1) (second (reserved 0 2 0))
    ∷ refuses (by_record 7 1) (second_of_pair (conditional 0 2 1))
    -- flags
    ∷ refuses (by_record 7 1) (second (flagged 16 (loads 0 x 0)))
    ∷ refuses (by_record 7 1) (second (flagged 16 (stores 0 x 1)))
    ∷ refuses (by_record 7 1) (second (flagged 16 (swaps 0 x 0 1)))
    ∷ refuses (by_record 7 1) (second (flagged 16 (reserved 0 x 0)))
    ∷ refuses (by_record 7 1) (second_of_pair (flagged 16 (conditional 0 x 1)))
    ∷ refuses (by_record 7 1) (second (fences 0 16))
    ∷ refuses (by_record 7 1) (second (flagged 16 (fences_tso 0)))
    -- a non-reader with a value read: store, SC, fence, fence.tso
    ∷ refuses (by_record 7 1) (second (access 2 0 x 1 1))
    ∷ refuses (by_record 7 1) (second_of_pair (access 5 0 x 1 1))
    ∷ refuses (by_record 7 1) (second (access 6 0 0 1 0))
    ∷ refuses (by_record 7 1) (second (access 7 0 0 1 0))
    -- a non-writer with a value written: load, LR, fence, fence.tso
    ∷ refuses (by_record 7 1) (second (access 1 0 x 0 1))
    ∷ refuses (by_record 7 1) (second (access 4 0 x 0 1))
    ∷ refuses (by_record 7 1) (second (access 6 0 0 0 1))
    ∷ refuses (by_record 7 1) (second (access 7 0 0 0 1))
    -- a fence or fence.tso with location or mask; flags on fence.tso
    ∷ refuses (by_record 7 1) (second (access 6 0 y 0 0))
    ∷ refuses (by_record 7 1) (second (access 7 0 y 0 0))
    ∷ refuses (by_record 7 1) (second (address_on event0 (full_fence 0)))
    ∷ refuses (by_record 7 1) (second (data_on event0 (full_fence 0)))
    ∷ refuses (by_record 7 1) (second (control_on event0 (full_fence 0)))
    ∷ refuses (by_record 7 1) (second (address_on event0 (fences_tso 0)))
    ∷ refuses (by_record 7 1) (second (data_on event0 (fences_tso 0)))
    ∷ refuses (by_record 7 1) (second (control_on event0 (fences_tso 0)))
    ∷ refuses (by_record 7 1) (second (flagged 1 (fences_tso 0)))
    ∷ refuses (by_record 7 1) (second (flagged 8 (fences_tso 0)))
    ∷ refuses (by_record 7 1) (second (flagged 15 (fences_tso 0)))
    -- "Only an AMO may have an operation": here the written value, 0, is that of the operation
    ∷ refuses (by_record 7 1) (second (operated 1 0 (loads 0 x 0)))
    ∷ refuses (by_record 7 1) (second (operated 1 0 (stores 0 x 0)))
    ∷ refuses (by_record 7 1) (second (operated 1 0 (reserved 0 x 0)))
    ∷ refuses (by_record 7 1) (second_of_pair (operated 1 0 (conditional 0 x 0)))
    ∷ refuses (by_record 7 1) (second (operated 1 0 (full_fence 0)))
    ∷ refuses (by_record 7 1) (second (operated 1 0 (fences_tso 0)))
    -- operations go to 6
    ∷ refuses (by_record 7 0) (operates 7 0 0 0)
    ∷ refuses (by_record 7 0) (operates 255 0 0 0)
    -- "0 none (the written value is as stated, operand 0)"
    ∷ accepts (operates 0 12 0 99)
    ∷ refuses (by_record 7 1) (second (operated 0 1 (swaps 0 x 0 1)))
    ∷ refuses (by_record 7 1) (second (operated 0 1 (loads 0 x 0)))
    ∷ refuses (by_record 7 1) (second (operated 0 1 (stores 0 x 1)))
    ∷ refuses (by_record 7 1) (second (operated 0 1 (reserved 0 x 0)))
    ∷ refuses (by_record 7 1) (second_of_pair (operated 0 1 (conditional 0 x 1)))
    ∷ refuses (by_record 7 1) (second (operated 0 1 (full_fence 0)))
    ∷ refuses (by_record 7 1) (second (operated 0 1 (fences_tso 0)))
    -- "the written value must be the operation applied to the value read"
    ∷ accepts (operates 1 12 10 22)
    ∷ accepts (operates 2 12 10 8)
    ∷ accepts (operates 3 12 10 14)
    ∷ accepts (operates 4 12 10 6)
    ∷ accepts (operates 5 12 10 12)
    ∷ accepts (operates 6 12 10 10)
    ∷ accepts (operates 5 10 12 12)
    ∷ accepts (operates 6 10 12 10)
    ∷ accepts (operates 1 65535 1 0)
    ∷ refuses (by_record 7 0) (operates 1 12 10 2)
    ∷ refuses (by_record 7 0) (operates 2 12 10 14)
    ∷ refuses (by_record 7 0) (operates 3 12 10 8)
    ∷ refuses (by_record 7 0) (operates 4 12 10 14)
    ∷ refuses (by_record 7 0) (operates 5 12 10 10)
    ∷ refuses (by_record 7 0) (operates 6 12 10 12)
    ∷ refuses (by_record 7 0) (operates 5 10 12 10)
    ∷ refuses (by_record 7 0) (operates 6 10 12 12)
    ∷ refuses (by_record 7 0) (operates 1 65535 1 65535)
    ∷ []

-- "The value read must be 0 in every line, and so must the written value of an AMO with an operation .. (a breach is 7; T-05's
-- check of that value isn't made in texts)"
abbrev pub text_line7_cases : List Claim
text_line7_cases =
    -- the value read, of each reader
    accepts_text (alone (loads 0 x 0))
    ∷ accepts_text (alone (reserved 0 x 0))
    ∷ accepts_text (operates 0 0 0 0)
    ∷ refuses_text (by_record 7 1) (second (loads 0 x 1))
    ∷ refuses_text (by_record 7 1) (second (reserved 0 x 1))
    ∷ refuses_text (by_record 7 1) (second (swaps 0 x 1 0))
    -- the written value of an AMO, with an operation and without, and of others
    ∷ refuses_text (by_record 7 0) (operates 1 0 1 1)
    ∷ accepts (operates 1 0 1 1)
    ∷ accepts_text (operates 1 0 1 0)
    ∷ refuses (by_record 7 0) (operates 1 0 1 0)
    ∷ accepts_text (operates 6 0 9 0)
    ∷ accepts_text (operates 0 0 0 5)
    ∷ accepts_text (alone (stores 0 x 5))
    ∷ accepts_text (second_of_pair (conditional 0 x 5))
    -- all else is asked as of a block
    ∷ refuses_text (by_record 7 0) (alone (access 8 0 0 0 0))
    ∷ refuses_text (by_record 7 1) (second (access 1 0 x 0 1))
    ∷ refuses_text (by_record 7 1) (second (access 6 0 y 0 0))
    ∷ refuses_text (by_record 7 0) (operates 7 0 0 0)
    ∷ refuses_text (by_record 7 0) (operates 0 0 1 0)
    -- the lowest record, after 5 and before 8; texts have up to 30 events
    ∷ refuses_text (by_record 7 1) (program (flagged release_rcpc (loads 0 x 0) ∷ loads 0 x 1 ∷ loads 0 x 1 ∷ []))
    ∷ refuses_text (by_record 8 0) (program (flagged release_rcpc (loads 0 x 0) ∷ loads 0 x 0 ∷ []))
    ∷ accepts_text (plain_test 1 1 (replicate 30 (loads 0 x 0)))
    ∷ refuses_text (by_line 5) (plain_test 1 1 (replicate 31 (loads 0 x 1)))
    ∷ refuses_text (by_line 11) (alone (full_fence 0))
    ∷ []

-- "both acquires or both releases at once; a reader with release and no acquire; a plain store or SC with acquire and no release";
-- the second clause "now speaks of loads and LRs only, and an AMO may carry either annotation alone"
abbrev pub line8_cases : List Claim
line8_cases =
    -- both acquires
    refuses (by_record 8 1) (second (flagged (acquire_rcpc + acquire_rcsc) (loads 0 x 0)))
    ∷ refuses (by_record 8 1) (second (flagged (acquire_rcpc + acquire_rcsc) (swaps 0 x 0 1)))
    ∷ refuses (by_record 8 1) (second (flagged (acquire_rcpc + acquire_rcsc) (reserved 0 x 0)))
    ∷ refuses (by_record 8 1) (second (flagged (acquire_rcpc + acquire_rcsc + release_rcpc) (stores 0 x 1)))
    ∷ refuses (by_record 8 1) (second_of_pair (flagged (acquire_rcpc + acquire_rcsc + release_rcpc) (conditional 0 x 1)))
    -- both releases
    ∷ refuses (by_record 8 1) (second (flagged (release_rcpc + release_rcsc) (stores 0 x 1)))
    ∷ refuses (by_record 8 1) (second (flagged (release_rcpc + release_rcsc) (swaps 0 x 0 1)))
    ∷ refuses (by_record 8 1) (second_of_pair (flagged (release_rcpc + release_rcsc) (conditional 0 x 1)))
    ∷ refuses (by_record 8 1) (second (flagged (acquire_rcpc + release_rcpc + release_rcsc) (loads 0 x 0)))
    ∷ refuses (by_record 8 1) (second (flagged (acquire_rcpc + release_rcpc + release_rcsc) (reserved 0 x 0)))
    -- a load or LR with release and no acquire; with both it passes, and with an acquire alone
    ∷ refuses (by_record 8 1) (second (flagged release_rcpc (loads 0 x 0)))
    ∷ refuses (by_record 8 1) (second (flagged release_rcsc (loads 0 x 0)))
    ∷ refuses (by_record 8 1) (second (flagged release_rcpc (reserved 0 x 0)))
    ∷ refuses (by_record 8 1) (second (flagged release_rcsc (reserved 0 x 0)))
    ∷ accepts (second (flagged (acquire_rcpc + release_rcpc) (loads 0 x 0)))
    ∷ accepts (second (flagged (acquire_rcsc + release_rcsc) (reserved 0 x 0)))
    ∷ accepts (second (flagged (acquire_rcsc + release_rcpc) (loads 0 x 0)))
    ∷ accepts (second (flagged (acquire_rcpc + release_rcsc) (loads 0 x 0)))
    ∷ accepts (second (flagged acquire_rcpc (loads 0 x 0)))
    ∷ accepts (second (flagged acquire_rcsc (loads 0 x 0)))
    ∷ accepts (second (flagged acquire_rcpc (reserved 0 x 0)))
    -- a plain store or SC with acquire and no release; with both it passes, and with a release alone
    ∷ refuses (by_record 8 1) (second (flagged acquire_rcpc (stores 0 x 1)))
    ∷ refuses (by_record 8 1) (second (flagged acquire_rcsc (stores 0 x 1)))
    ∷ refuses (by_record 8 1) (second_of_pair (flagged acquire_rcpc (conditional 0 x 1)))
    ∷ refuses (by_record 8 1) (second_of_pair (flagged acquire_rcsc (conditional 0 x 1)))
    ∷ accepts (second (flagged (acquire_rcpc + release_rcpc) (stores 0 x 1)))
    ∷ accepts (second (flagged (acquire_rcsc + release_rcsc) (stores 0 x 1)))
    ∷ accepts (second_of_pair (flagged (acquire_rcsc + release_rcsc) (conditional 0 x 1)))
    ∷ accepts (second (flagged release_rcpc (stores 0 x 1)))
    ∷ accepts (second (flagged release_rcsc (stores 0 x 1)))
    ∷ accepts (second_of_pair (flagged release_rcpc (conditional 0 x 1)))
    -- an AMO with either alone, or one of each
    ∷ accepts (second (flagged acquire_rcpc (swaps 0 x 0 1)))
    ∷ accepts (second (flagged acquire_rcsc (swaps 0 x 0 1)))
    ∷ accepts (second (flagged release_rcpc (swaps 0 x 0 1)))
    ∷ accepts (second (flagged release_rcsc (swaps 0 x 0 1)))
    ∷ accepts (second (flagged (acquire_rcsc + release_rcsc) (swaps 0 x 0 1)))
    -- a fence's bits are no annotations
    ∷ accepts (second (fences 0 3))
    ∷ accepts (second (fences 0 12))
    ∷ accepts (second (fences 0 15))
    ∷ []

-- load (0), a store with the control mask given (1), then the event given (2)
abbrev controlled : Event → Table
controlled e = program (loads 0 x 0 ∷ control_on event0 (stores 0 y 1) ∷ e ∷ [])

-- load (0), the event given (1), then a store without a control mask (2)
abbrev uncontrolled : Event → Table
uncontrolled e = program (loads 0 x 0 ∷ e ∷ stores 0 y 1 ∷ [])

-- "a mask names an event that isn't earlier on the same hart, or is a plain store or a fence; a data mask on a non-writer; a
-- control mask with a bit that some later memory event of that hart lacks"
abbrev pub line9_cases : List Claim
line9_cases =
    -- each mask, and each kind that has one, may name an earlier load
    accepts (second (address_on event0 (loads 0 y 0)))
    ∷ accepts (second (address_on event0 (stores 0 y 1)))
    ∷ accepts (second (data_on event0 (stores 0 y 1)))
    ∷ accepts (second (data_on event0 (swaps 0 y 0 1)))
    ∷ accepts (program (loads 0 y 0 ∷ reserved 0 x 0 ∷ data_on event0 (conditional 0 x 1) ∷ []))
    ∷ accepts (second (control_on event0 (loads 0 y 0)))
    ∷ accepts (second (control_on event0 (stores 0 y 1)))
    -- or an AMO, an LR, an SC
    ∷ accepts (program (swaps 0 x 0 1 ∷ address_on event0 (loads 0 y 0) ∷ []))
    ∷ accepts (second_of_pair (address_on event0 (loads 0 y 0)))
    ∷ accepts (program (reserved 0 x 0 ∷ conditional 0 x 1 ∷ address_on event1 (loads 0 y 0) ∷ []))
    -- itself, by each mask
    ∷ refuses (by_record 9 1) (second (address_on event1 (loads 0 y 0)))
    ∷ refuses (by_record 9 1) (second (data_on event1 (swaps 0 y 0 1)))
    ∷ refuses (by_record 9 1) (second (control_on event1 (loads 0 y 0)))
    -- a later event; another hart's; a number past the events
    ∷ refuses (by_record 9 0) (program (address_on event1 (loads 0 x 0) ∷ loads 0 y 0 ∷ []))
    ∷ refuses (by_record 9 1) (second (address_on event0 (loads 1 y 0)))
    ∷ refuses (by_record 9 1) (second (data_on event0 (stores 1 y 1)))
    ∷ refuses (by_record 9 1) (second (control_on event0 (loads 1 y 0)))
    ∷ refuses (by_record 9 1) (second (address_on event2 (loads 0 y 0)))
    ∷ refuses (by_record 9 1) (second (address_on (2 ^ 31) (loads 0 y 0)))
    ∷ refuses (by_record 9 1) (second (data_on (2 ^ 31) (stores 0 y 1)))
    ∷ refuses (by_record 9 1) (second (control_on (2 ^ 31) (loads 0 y 0)))
    -- "Mask bits 30 and 31 are 9"
    ∷ accepts_wide (thirtieth (address_on (2 ^ 28) (loads 0 x 0)))
    ∷ refuses_wide (by_record 9 29) (thirtieth (address_on (2 ^ 30) (loads 0 x 0)))
    ∷ refuses_wide (by_record 9 29) (thirtieth (address_on (2 ^ 31) (loads 0 x 0)))
    ∷ refuses_wide (by_record 9 29) (thirtieth (data_on (2 ^ 30) (stores 0 x 1)))
    ∷ refuses_wide (by_record 9 29) (thirtieth (control_on (2 ^ 31) (loads 0 x 0)))
    -- a plain store, a fence, fence.tso
    ∷ refuses (by_record 9 1) (program (stores 0 x 1 ∷ address_on event0 (loads 0 y 0) ∷ []))
    ∷ refuses (by_record 9 1) (program (full_fence 0 ∷ address_on event0 (loads 0 y 0) ∷ []))
    ∷ refuses (by_record 9 1) (program (fences_tso 0 ∷ address_on event0 (loads 0 y 0) ∷ []))
    ∷ refuses (by_record 9 1) (program (stores 0 x 1 ∷ data_on event0 (stores 0 y 1) ∷ []))
    ∷ refuses (by_record 9 1) (program (stores 0 x 1 ∷ control_on event0 (stores 0 y 1) ∷ []))
    -- one bit among others
    ∷ refuses (by_record 9 2) (program (loads 0 x 0 ∷ stores 0 y 1 ∷ address_on (event0 + event1) (loads 0 y 0) ∷ []))
    -- a data mask on a load, on an LR
    ∷ refuses (by_record 9 1) (second (data_on event0 (loads 0 y 0)))
    ∷ refuses (by_record 9 1) (second (data_on event0 (reserved 0 y 0)))
    -- a later event of each kind that lacks the bit of the record before it
    ∷ refuses (by_record 9 1) (controlled (loads 0 x 0))
    ∷ refuses (by_record 9 1) (controlled (stores 0 x 1))
    ∷ refuses (by_record 9 1) (controlled (swaps 0 x 0 1))
    ∷ refuses (by_record 9 1) (controlled (reserved 0 x 0))
    ∷ refuses (by_record 9 2) (program (loads 0 y 0 ∷ reserved 0 x 0 ∷ control_on event0 (stores 0 y 1) ∷ conditional 0 x 1 ∷ []))
    -- a record of each kind that has the bit
    ∷ refuses (by_record 9 1) (uncontrolled (control_on event0 (loads 0 x 0)))
    ∷ refuses (by_record 9 1) (uncontrolled (control_on event0 (stores 0 x 1)))
    ∷ refuses (by_record 9 1) (uncontrolled (control_on event0 (swaps 0 x 0 1)))
    ∷ refuses (by_record 9 1) (uncontrolled (control_on event0 (reserved 0 x 0)))
    ∷ refuses (by_record 9 2) (program (loads 0 y 0 ∷ reserved 0 x 0 ∷ control_on event0 (conditional 0 x 1) ∷ stores 0 y 1 ∷ []))
    -- with the bit it passes; so do fences, the other hart's events, and earlier ones
    ∷ accepts (controlled (control_on event0 (loads 0 x 0)))
    ∷ accepts (controlled (control_on event0 (stores 0 x 1)))
    ∷ accepts (controlled (control_on event0 (swaps 0 x 0 1)))
    ∷ accepts (controlled (full_fence 0))
    ∷ accepts (controlled (fences_tso 0))
    ∷ accepts (controlled (loads 1 x 0))
    ∷ accepts (controlled (stores 1 x 1))
    ∷ accepts (program (loads 0 x 0 ∷ loads 0 x 0 ∷ control_on event0 (stores 0 y 1) ∷ []))
    -- another bit isn't that bit; more bits are fine; a later event that isn't the next counts too
    ∷ refuses (by_record 9 2) (program (loads 0 x 0 ∷ loads 0 x 0 ∷ control_on event0 (stores 0 y 1) ∷ control_on event1 (stores 0 y 2) ∷ []))
    ∷ accepts (program (loads 0 x 0 ∷ loads 0 x 0 ∷ control_on event0 (stores 0 y 1) ∷ control_on (event0 + event1) (stores 0 y 2) ∷ []))
    ∷ refuses (by_record 9 1) (program (loads 0 x 0 ∷ control_on event0 (stores 0 y 1) ∷ control_on event0 (stores 0 y 2) ∷ stores 0 y 3 ∷ []))
    ∷ []

-- "an SC whose nearest earlier LR or SC on its hart isn't an LR to the same location"
abbrev pub line10_cases : List Claim
line10_cases =
    accepts (second_of_pair (conditional 0 x 1))
    ∷ accepts (program (reserved 0 x 0 ∷ reserved 0 x 0 ∷ conditional 0 x 1 ∷ []))
    ∷ accepts (program (reserved 0 y 0 ∷ reserved 0 x 0 ∷ conditional 0 x 1 ∷ []))
    ∷ accepts (program (reserved 0 x 0 ∷ conditional 0 x 1 ∷ reserved 0 y 0 ∷ conditional 0 y 1 ∷ []))
    ∷ accepts (program (reserved 0 x 0 ∷ loads 0 y 0 ∷ stores 0 x 1 ∷ swaps 0 y 0 1 ∷ full_fence 0 ∷ conditional 0 x 1 ∷ []))
    ∷ accepts (program (reserved 0 x 0 ∷ reserved 1 y 0 ∷ conditional 0 x 1 ∷ conditional 1 y 1 ∷ []))
    -- none before it
    ∷ refuses (by_record 10 0) (alone (conditional 0 x 1))
    ∷ refuses (by_record 10 0) (program (conditional 0 x 1 ∷ reserved 0 x 0 ∷ []))
    -- a load, a store or an AMO isn't an LR; an LR to another location; another hart's
    ∷ refuses (by_record 10 1) (second (conditional 0 x 1))
    ∷ refuses (by_record 10 1) (program (stores 0 x 1 ∷ conditional 0 x 1 ∷ []))
    ∷ refuses (by_record 10 1) (program (swaps 0 x 0 1 ∷ conditional 0 x 1 ∷ []))
    ∷ refuses (by_record 10 1) (second_of_pair (conditional 0 y 1))
    ∷ refuses (by_record 10 1) (second_of_pair (conditional 1 x 1))
    -- the nearest is an SC; or an LR to another location, though one before it is to the same
    ∷ refuses (by_record 10 2) (program (reserved 0 x 0 ∷ conditional 0 x 1 ∷ conditional 0 x 2 ∷ []))
    ∷ refuses (by_record 10 2) (program (reserved 0 x 0 ∷ reserved 0 y 0 ∷ conditional 0 x 1 ∷ []))
    ∷ []

-- "no memory event"
abbrev pub line11_cases : List Claim
line11_cases =
    refuses (by_line 11) (alone (full_fence 0))
    ∷ refuses (by_line 11) (alone (fences_tso 0))
    ∷ refuses (by_line 11) (program (fences 0 0 ∷ fences_tso 1 ∷ []))
    ∷ accepts (alone (loads 0 x 0))
    ∷ accepts (alone (stores 0 x 1))
    ∷ accepts (alone (swaps 0 x 0 1))
    ∷ accepts (alone (reserved 0 x 0))
    ∷ accepts (program (full_fence 0 ∷ loads 0 x 0 ∷ []))
    ∷ []

-- so many locations, whose final values aren't stated
abbrev touched : (locations : ℕ) → List Event → Table
touched l es = plain_test 2 l es

-- "a location no memory event touches and whose final value isn't stated"
abbrev pub line21_cases : List Claim
line21_cases =
    -- each kind touches its location
    accepts (touched 1 (loads 0 x 0 ∷ []))
    ∷ accepts (touched 2 (loads 0 x 0 ∷ loads 1 y 0 ∷ []))
    ∷ accepts (touched 2 (loads 0 x 0 ∷ stores 1 y 1 ∷ []))
    ∷ accepts (touched 2 (loads 0 x 0 ∷ swaps 1 y 0 1 ∷ []))
    ∷ accepts (touched 2 (loads 0 x 0 ∷ reserved 1 y 0 ∷ []))
    ∷ accepts (touched 2 (reserved 0 x 0 ∷ conditional 0 x 1 ∷ stores 0 y 1 ∷ []))
    ∷ accepts (touched 8 (loads_of 8))
    ∷ accepts_wide (touched 8 (loads_of 8 ++ loads_of 8 ++ loads_of 8))
    -- the first, one between, the last; of either edition
    ∷ refuses (by_line 21) (touched 2 (loads 0 y 0 ∷ []))
    ∷ refuses (by_line 21) (touched 3 (loads 0 x 0 ∷ loads 0 2 0 ∷ []))
    ∷ refuses (by_line 21) (touched 2 (loads 0 x 0 ∷ stores 1 x 1 ∷ []))
    ∷ refuses (by_line 21) (touched 8 (loads_of 7))
    ∷ refuses_wide (by_line 21) (touched 8 (loads_of 7 ++ loads_of 7 ++ loads_of 7))
    -- a fence touches none, though its location byte is 0
    ∷ refuses (by_line 21) (touched 2 (loads 0 y 0 ∷ full_fence 0 ∷ []))
    ∷ refuses (by_line 21) (touched 2 (loads 0 y 0 ∷ fences_tso 1 ∷ []))
    -- a stated location may be untouched, whatever its values; another's statement doesn't help
    ∷ accepts (valued 1 2 1 [] [] (loads 0 y 0 ∷ []))
    ∷ accepts (valued 1 2 2 [] (0 ∷ 5 ∷ []) (loads 0 x 0 ∷ []))
    ∷ accepts (valued 1 8 254 [] [] (loads 0 x 0 ∷ []))
    ∷ refuses (by_line 21) (valued 1 2 1 [] (5 ∷ []) (loads 0 x 0 ∷ []))
    ∷ refuses (by_line 21) (valued 1 8 126 [] [] (loads 0 x 0 ∷ []))
    -- nor does an initial value
    ∷ refuses (by_line 21) (valued 1 2 0 (0 ∷ 5 ∷ []) [] (loads 0 x 0 ∷ []))
    -- "checked after 11": each line before it comes first
    ∷ refuses (by_line 5) (plain_test 0 2 (loads 0 x 0 ∷ []))
    ∷ refuses (by_line 6) (valued 1 2 0 [] (5 ∷ []) (loads 0 x 0 ∷ []))
    ∷ refuses (by_record 7 0) (touched 2 (loads 2 x 0 ∷ []))
    ∷ refuses (by_record 8 0) (touched 2 (flagged release_rcpc (loads 0 x 0) ∷ []))
    ∷ refuses (by_record 9 0) (touched 2 (address_on event0 (loads 0 x 0) ∷ []))
    ∷ refuses (by_record 10 0) (touched 2 (conditional 0 x 1 ∷ []))
    ∷ refuses (by_line 11) (touched 2 (full_fence 0 ∷ []))
    ∷ []

-- "Exactly the lowest number whose line holds is given, or else none; within 7 to 10, its lowest record is named."
abbrev pub line_order_cases : List Claim
line_order_cases =
    -- 5 before 6, 6 before 7
    refuses (by_line 5) (valued 0 1 0 (0 ∷ 5 ∷ []) [] (loads 0 x 0 ∷ []))
    ∷ refuses (by_line 6) (valued 1 1 0 (0 ∷ 5 ∷ []) [] (loads 1 x 0 ∷ []))
    -- record 3 breaking 7 before record 0 breaking 8; 8 before 9; 9 before 10; 7 before 11
    ∷ refuses (by_record 7 3) (program (flagged release_rcpc (loads 0 x 0) ∷ loads 0 x 0 ∷ loads 0 x 0 ∷ loads 2 x 0 ∷ []))
    ∷ refuses (by_record 8 1) (program (address_on event1 (loads 0 x 0) ∷ flagged release_rcpc (loads 0 x 0) ∷ []))
    ∷ refuses (by_record 9 1) (program (conditional 0 x 1 ∷ address_on event1 (loads 0 x 0) ∷ []))
    ∷ refuses (by_record 7 0) (alone (access 6 0 y 0 0))
    -- the lowest record of each
    ∷ refuses (by_record 7 1) (program (loads 0 x 0 ∷ loads 2 x 0 ∷ loads 2 x 0 ∷ []))
    ∷ refuses (by_record 8 1) (program (loads 0 x 0 ∷ flagged release_rcpc (loads 0 x 0) ∷ flagged release_rcpc (loads 0 x 0) ∷ []))
    ∷ refuses (by_record 9 1) (program (loads 0 x 0 ∷ data_on event0 (loads 0 x 0) ∷ data_on event0 (loads 0 x 0) ∷ []))
    ∷ refuses (by_record 10 1) (program (loads 0 x 0 ∷ conditional 0 x 1 ∷ conditional 0 x 1 ∷ []))
    ∷ []
