-- What an order makes a reader return, the axioms, the stated values, the verdict order, orders and clean prefixes, clause by
-- clause. Every value was worked by hand from the text.
use Rattle.std.specs.Prelude.{ℕ, true, false, List, [], ◌∷◌}
use Rattle.table.specs.declared.Event.{Event}
use Rattle.table.specs.declared.Table.{Table}
use Rattle.prefixes.specs.Answer.{found, none_left, spent}
use Rattle.model.specs.Verdict.{allowed, broken_ppo, broken_load_value, broken_atomicity, broken_value_read, broken_final_value}
use Rattle.model.specs.Claims.{x, y, z, loads, stores, swaps, reserved, conditional, fences, full_fence, data_on, event0, plain_test, touching, valued}
use Rattle.model.specs.Claims.{initially, nothing, Claim, searched, judged, meets, returning, atomicity_at, weighed, cleanly, all_clean}
use Rattle.model.specs.Cases.{c1, c2, c4, c5, c7, c8}

-- up to three harts, zero initial values
abbrev program : List Event → Table
program es = plain_test 3 (touching es) es

-- store x (0) and load x (1) on hart 0; store x (2) on hart 1
abbrev forwarded : Table
forwarded = program (stores 0 x 1 ∷ loads 0 x 1 ∷ stores 1 x 2 ∷ [])

-- "Load value: a reader returns from the latest in the order among writers to its location that precede it in the order or in
-- program order, never itself." "Initial writes .. precede everything."
abbrev pub load_value_cases : List Claim
load_value_cases =
    -- the hart's own earlier store wins where it is later in the order than all that precede the reader
    returning forwarded (2 ∷ 1 ∷ 0 ∷ []) (nothing ∷ 0 ∷ nothing ∷ [])
    ∷ returning forwarded (1 ∷ 2 ∷ 0 ∷ []) (nothing ∷ 0 ∷ nothing ∷ [])
    ∷ returning forwarded (1 ∷ 0 ∷ 2 ∷ []) (nothing ∷ 0 ∷ nothing ∷ [])
    ∷ returning forwarded (0 ∷ 1 ∷ 2 ∷ []) (nothing ∷ 0 ∷ nothing ∷ [])
    -- and otherwise what precedes the reader in the order, the latest
    ∷ returning forwarded (0 ∷ 2 ∷ 1 ∷ []) (nothing ∷ 2 ∷ nothing ∷ [])
    ∷ returning forwarded (2 ∷ 0 ∷ 1 ∷ []) (nothing ∷ 0 ∷ nothing ∷ [])
    -- the latest in the order, not the highest number
    ∷ returning (program (stores 0 x 1 ∷ stores 1 x 2 ∷ loads 2 x 1 ∷ [])) (1 ∷ 0 ∷ 2 ∷ []) (nothing ∷ nothing ∷ 0 ∷ [])
    ∷ returning (program (stores 0 x 1 ∷ stores 1 x 2 ∷ loads 2 x 2 ∷ [])) (0 ∷ 1 ∷ 2 ∷ []) (nothing ∷ nothing ∷ 1 ∷ [])
    -- the hart's own later store is seen only if it precedes the load in the order
    ∷ returning (program (loads 0 x 0 ∷ stores 0 x 1 ∷ [])) (0 ∷ 1 ∷ []) (initially ∷ nothing ∷ [])
    ∷ returning (program (loads 0 x 0 ∷ stores 0 x 1 ∷ [])) (1 ∷ 0 ∷ []) (1 ∷ nothing ∷ [])
    -- another hart's store of a lower number isn't earlier in program order
    ∷ returning (program (stores 0 x 1 ∷ loads 1 x 0 ∷ [])) (1 ∷ 0 ∷ []) (nothing ∷ initially ∷ [])
    ∷ returning (program (stores 0 x 1 ∷ loads 1 x 1 ∷ [])) (0 ∷ 1 ∷ []) (nothing ∷ 0 ∷ [])
    -- another location
    ∷ returning (program (stores 0 y 1 ∷ loads 0 x 0 ∷ [])) (0 ∷ 1 ∷ []) (nothing ∷ initially ∷ [])
    -- an AMO never returns from itself
    ∷ returning (program (swaps 0 x 0 1 ∷ [])) (0 ∷ []) (initially ∷ [])
    ∷ returning (program (swaps 0 x 0 1 ∷ swaps 0 x 1 2 ∷ [])) (0 ∷ 1 ∷ []) (initially ∷ 0 ∷ [])
    -- loads, AMOs and LRs return; stores, AMOs and SCs are returned from; a fence has no entry of its own
    ∷ returning (program (stores 0 x 1 ∷ fences 0 0 ∷ reserved 0 x 1 ∷ conditional 0 x 2 ∷ loads 0 x 2 ∷ swaps 0 x 2 3
    ∷ loads 0 x 3 ∷ []))
    (0 ∷ 2 ∷ 3 ∷ 4 ∷ 5 ∷ 6 ∷ []) (nothing ∷ nothing ∷ 0 ∷ nothing ∷ 3 ∷ 3 ∷ 5 ∷ [])
    -- a candidate that returns from elsewhere breaks it: from a later write, the initial one, itself
    ∷ judged (program (stores 0 x 1 ∷ loads 1 x 1 ∷ [])) (nothing ∷ 0 ∷ []) (1 ∷ 0 ∷ []) (broken_load_value 1)
    ∷ judged (program (stores 0 x 1 ∷ loads 1 x 0 ∷ [])) (nothing ∷ initially ∷ []) (0 ∷ 1 ∷ []) (broken_load_value 1)
    ∷ judged (program (swaps 0 x 1 1 ∷ [])) (0 ∷ []) (0 ∷ []) (broken_load_value 0)
    ∷ judged (program (reserved 0 x 1 ∷ stores 1 x 1 ∷ [])) (1 ∷ nothing ∷ []) (0 ∷ 1 ∷ []) (broken_load_value 0)
    ∷ []

-- store x (0), LR x (1), SC x (2) on hart 0; store x (3) on hart 1
abbrev reserved_own : Table
reserved_own = program (stores 0 x 1 ∷ reserved 0 x 1 ∷ conditional 0 x 2 ∷ stores 1 x 3 ∷ [])

-- LR x (0), SC x (1) on hart 0; stores to x on harts 1 (2) and 2 (3)
abbrev rivals : (read : ℕ) → Table
rivals r = program (reserved 0 x r ∷ conditional 0 x 1 ∷ stores 1 x 2 ∷ stores 2 x 3 ∷ [])

-- two pairs: LR x (0), SC x (1) on hart 0; LR y (2), SC y (3) on hart 1; stores to x (4) and y (5) on hart 2
abbrev two_pairs : Table
two_pairs = program (reserved 0 x 0 ∷ conditional 0 x 1 ∷ reserved 1 y 0 ∷ conditional 1 y 1 ∷ stores 2 x 2 ∷ stores 2 y 2 ∷ [])

abbrev two_pairs_returned : List ℕ
two_pairs_returned = initially ∷ nothing ∷ initially ∷ nothing ∷ nothing ∷ nothing ∷ []

-- "Atomicity: for paired LR and SC, the write that the LR returned from precedes the SC in the order, and no other hart's write to
-- the location stands after it and before the SC."
abbrev pub atomicity_cases : List Claim
atomicity_cases =
    -- from the write returned from, and not from the LR: hart 1's store (3) stands after LR 1, and before store 0 that it returned from
    judged reserved_own (nothing ∷ 0 ∷ nothing ∷ nothing ∷ []) (1 ∷ 3 ∷ 0 ∷ 2 ∷ []) allowed
    ∷ judged reserved_own (nothing ∷ 0 ∷ nothing ∷ nothing ∷ []) (1 ∷ 0 ∷ 3 ∷ 2 ∷ []) (broken_atomicity 1 3)
    -- "A store of the LR's own hart doesn't break atomicity (C8)."
    ∷ judged c8 (initially ∷ nothing ∷ nothing ∷ []) (0 ∷ 1 ∷ 2 ∷ []) allowed
    -- after the SC
    ∷ judged (c7 2) (initially ∷ nothing ∷ nothing ∷ []) (0 ∷ 1 ∷ 2 ∷ []) allowed
    -- before the write returned from
    ∷ judged (rivals 3) (3 ∷ nothing ∷ nothing ∷ nothing ∷ []) (2 ∷ 3 ∷ 0 ∷ 1 ∷ []) allowed
    -- another hart's AMO or SC counts, its load or LR doesn't
    ∷ judged (program (reserved 0 x 0 ∷ conditional 0 x 1 ∷ swaps 1 x 0 2 ∷ [])) (initially ∷ nothing ∷ initially ∷ [])
    (0 ∷ 2 ∷ 1 ∷ []) (broken_atomicity 0 2)
    ∷ judged (program (reserved 0 x 0 ∷ conditional 0 x 1 ∷ reserved 1 x 0 ∷ conditional 1 x 2 ∷ []))
    (initially ∷ nothing ∷ initially ∷ nothing ∷ []) (0 ∷ 2 ∷ 3 ∷ 1 ∷ []) (broken_atomicity 0 3)
    ∷ judged (program (reserved 0 x 0 ∷ conditional 0 x 1 ∷ loads 1 x 0 ∷ reserved 2 x 0 ∷ []))
    (initially ∷ nothing ∷ initially ∷ initially ∷ []) (0 ∷ 2 ∷ 3 ∷ 1 ∷ []) allowed
    -- another location
    ∷ judged (program (reserved 0 x 0 ∷ conditional 0 x 1 ∷ stores 1 y 2 ∷ [])) (initially ∷ nothing ∷ nothing ∷ [])
    (0 ∷ 2 ∷ 1 ∷ []) allowed
    -- the pair is with the nearest LR: store 3 stands between LR 0 and the SC, and LR 1 returned from it
    ∷ judged (program (reserved 0 x 0 ∷ reserved 0 x 2 ∷ conditional 0 x 1 ∷ stores 1 x 2 ∷ []))
    (initially ∷ 3 ∷ nothing ∷ nothing ∷ []) (0 ∷ 3 ∷ 1 ∷ 2 ∷ []) allowed
    -- an LR without an SC
    ∷ judged (program (reserved 0 x 0 ∷ stores 0 x 1 ∷ stores 1 x 2 ∷ [])) (initially ∷ nothing ∷ nothing ∷ [])
    (0 ∷ 2 ∷ 1 ∷ []) allowed
    -- the lowest LR; then the lowest writer between, not the first in the order
    ∷ judged two_pairs two_pairs_returned (0 ∷ 2 ∷ 4 ∷ 5 ∷ 1 ∷ 3 ∷ []) (broken_atomicity 0 4)
    ∷ judged two_pairs two_pairs_returned (0 ∷ 1 ∷ 2 ∷ 4 ∷ 5 ∷ 3 ∷ []) (broken_atomicity 2 5)
    ∷ judged (rivals 0) (initially ∷ nothing ∷ nothing ∷ nothing ∷ []) (0 ∷ 3 ∷ 2 ∷ 1 ∷ []) (broken_atomicity 0 2)
    -- Of any returned list, also one that breaks load value: the initial write precedes everything, so that a store before the LR
    -- stands after it;
    ∷ atomicity_at (c7 2) (initially ∷ nothing ∷ nothing ∷ []) (2 ∷ 0 ∷ 1 ∷ []) 0 (2 ∷ [])
    -- "if the write itself fails to precede, that write", which may be the SC;
    ∷ atomicity_at (rivals 0) (3 ∷ nothing ∷ nothing ∷ nothing ∷ []) (0 ∷ 2 ∷ 1 ∷ 3 ∷ []) 0 (3 ∷ [])
    ∷ atomicity_at (rivals 0) (1 ∷ nothing ∷ nothing ∷ nothing ∷ []) (0 ∷ 2 ∷ 1 ∷ 3 ∷ []) 0 (1 ∷ [])
    -- the write returned from isn't after itself
    ∷ atomicity_at (rivals 0) (2 ∷ nothing ∷ nothing ∷ nothing ∷ []) (0 ∷ 2 ∷ 1 ∷ 3 ∷ []) 0 []
    ∷ atomicity_at (rivals 0) (2 ∷ nothing ∷ nothing ∷ nothing ∷ []) (0 ∷ 2 ∷ 3 ∷ 1 ∷ []) 0 (3 ∷ [])
    ∷ []

-- "each reader returns its stated value and each stated final value is that of the location's last write"
abbrev pub stated_cases : List Claim
stated_cases =
    -- the value of the write, of a load, an LR and an AMO
    judged (program (stores 0 x 5 ∷ loads 1 x 5 ∷ [])) (nothing ∷ 0 ∷ []) (0 ∷ 1 ∷ []) allowed
    ∷ judged (program (stores 0 x 5 ∷ loads 1 x 4 ∷ [])) (nothing ∷ 0 ∷ []) (0 ∷ 1 ∷ []) (broken_value_read 1)
    ∷ judged (program (stores 0 x 5 ∷ reserved 1 x 4 ∷ [])) (nothing ∷ 0 ∷ []) (0 ∷ 1 ∷ []) (broken_value_read 1)
    ∷ judged (program (stores 0 x 5 ∷ swaps 1 x 4 4 ∷ [])) (nothing ∷ 0 ∷ []) (0 ∷ 1 ∷ []) (broken_value_read 1)
    -- what an AMO wrote, not what it read
    ∷ judged (program (swaps 0 x 0 5 ∷ loads 1 x 5 ∷ [])) (initially ∷ 0 ∷ []) (0 ∷ 1 ∷ []) allowed
    -- the initial value of the reader's own location
    ∷ judged (valued 1 2 0 (3 ∷ 4 ∷ []) [] (loads 0 y 4 ∷ loads 0 x 3 ∷ [])) (initially ∷ initially ∷ []) (0 ∷ 1 ∷ []) allowed
    ∷ judged (valued 1 2 0 (3 ∷ 4 ∷ []) [] (loads 0 y 3 ∷ loads 0 x 4 ∷ [])) (initially ∷ initially ∷ []) (0 ∷ 1 ∷ [])
    (broken_value_read 0)
    ∷ judged (valued 1 2 0 (3 ∷ 4 ∷ []) [] (loads 0 y 4 ∷ loads 0 x 0 ∷ [])) (initially ∷ initially ∷ []) (0 ∷ 1 ∷ [])
    (broken_value_read 1)
    -- the last write of the order, not of the table
    ∷ judged (valued 2 1 1 [] (1 ∷ []) (stores 0 x 1 ∷ stores 1 x 2 ∷ [])) (nothing ∷ nothing ∷ []) (1 ∷ 0 ∷ []) allowed
    ∷ judged (valued 2 1 1 [] (1 ∷ []) (stores 0 x 1 ∷ stores 1 x 2 ∷ [])) (nothing ∷ nothing ∷ []) (0 ∷ 1 ∷ [])
    (broken_final_value 0)
    -- of that location, by an AMO or SC too; a load after it writes nothing
    ∷ judged (valued 1 2 3 [] (1 ∷ 2 ∷ []) (swaps 0 x 0 1 ∷ stores 0 y 2 ∷ loads 0 x 1 ∷ [])) (initially ∷ nothing ∷ 0 ∷ [])
    (0 ∷ 1 ∷ 2 ∷ []) allowed
    ∷ judged (valued 1 1 1 [] (2 ∷ []) (reserved 0 x 0 ∷ conditional 0 x 2 ∷ loads 0 x 2 ∷ [])) (initially ∷ nothing ∷ 1 ∷ [])
    (0 ∷ 1 ∷ 2 ∷ []) allowed
    -- of a location that nothing writes it is the initial value
    ∷ judged (valued 1 2 1 (3 ∷ 4 ∷ []) (3 ∷ []) (stores 0 y 1 ∷ loads 0 x 3 ∷ [])) (nothing ∷ initially ∷ [])
    (0 ∷ 1 ∷ []) allowed
    ∷ judged (valued 1 2 1 (3 ∷ 4 ∷ []) (1 ∷ []) (stores 0 y 1 ∷ loads 0 x 3 ∷ [])) (nothing ∷ initially ∷ []) (0 ∷ 1 ∷ [])
    (broken_final_value 0)
    -- what isn't stated isn't asked
    ∷ judged (valued 1 1 0 (3 ∷ []) [] (stores 0 x 1 ∷ [])) (nothing ∷ []) (0 ∷ []) allowed
    ∷ judged (valued 1 2 2 (3 ∷ []) [] (stores 0 x 1 ∷ [])) (nothing ∷ []) (0 ∷ []) allowed
    -- the lowest location
    ∷ judged (valued 1 2 3 [] (7 ∷ 7 ∷ []) (stores 0 x 1 ∷ [])) (nothing ∷ []) (0 ∷ []) (broken_final_value 0)
    ∷ judged (valued 1 2 3 [] (1 ∷ 7 ∷ []) (stores 0 x 1 ∷ [])) (nothing ∷ []) (0 ∷ []) (broken_final_value 1)
    ∷ []

-- load x (0), load x (1) on hart 0; store x (2) on hart 1
abbrev twice : (first second : ℕ) → Table
twice r s = program (loads 0 x r ∷ loads 0 x s ∷ stores 1 x 1 ∷ [])

-- load x (0), store y whose data depends on it (1), load y (2)
abbrev dependent : (read : ℕ) → Table
dependent r = program (loads 0 x 0 ∷ data_on event0 (stores 0 y 1) ∷ loads 0 y r ∷ [])

-- LR x (0), SC x (1) on hart 0; store x (2), load x (3) on hart 1, with the LR's stated value
abbrev pair_and_load : (read : ℕ) → Table
pair_and_load r = program (reserved 0 x r ∷ conditional 0 x 1 ∷ stores 1 x 2 ∷ loads 1 x 1 ∷ [])

-- "Verdict order: preserved order (the lowest a, and for that a the lowest b, .. using the returns given); load value (lowest reader);
-- atomicity ..; value read (lowest reader); final value (lowest location)."
abbrev pub verdict_cases : List Claim
verdict_cases =
    -- the lowest a, though the pair 1, 2 is lower in b; for that a the lowest b
    judged (program (stores 0 x 1 ∷ stores 0 y 1 ∷ stores 0 y 2 ∷ stores 0 x 2 ∷ []))
    (nothing ∷ nothing ∷ nothing ∷ nothing ∷ []) (3 ∷ 0 ∷ 2 ∷ 1 ∷ []) (broken_ppo 0 3 (1 ∷ []))
    ∷ judged (program (stores 0 x 1 ∷ stores 0 x 2 ∷ stores 0 x 3 ∷ [])) (nothing ∷ nothing ∷ nothing ∷ []) (2 ∷ 1 ∷ 0 ∷ [])
    (broken_ppo 0 1 (1 ∷ []))
    ∷ judged (program (stores 0 x 1 ∷ stores 0 x 2 ∷ stores 0 x 3 ∷ [])) (nothing ∷ nothing ∷ nothing ∷ []) (0 ∷ 2 ∷ 1 ∷ [])
    (broken_ppo 1 2 (1 ∷ []))
    ∷ judged (program (stores 0 x 1 ∷ stores 0 x 2 ∷ stores 0 x 3 ∷ [])) (nothing ∷ nothing ∷ nothing ∷ [])
    (0 ∷ 1 ∷ 2 ∷ []) allowed
    -- the returns given feed rules 2, 3 and 12, not those that the order determines
    ∷ judged (twice 1 0) (2 ∷ initially ∷ nothing ∷ []) (1 ∷ 2 ∷ 0 ∷ []) (broken_ppo 0 1 (2 ∷ []))
    ∷ judged (twice 1 0) (initially ∷ initially ∷ nothing ∷ []) (1 ∷ 2 ∷ 0 ∷ []) (broken_load_value 0)
    ∷ judged c5 (initially ∷ initially ∷ []) (1 ∷ 0 ∷ []) (broken_load_value 1)
    ∷ judged (dependent 1) (initially ∷ nothing ∷ 1 ∷ []) (2 ∷ 0 ∷ 1 ∷ []) (broken_ppo 0 2 (12 ∷ []))
    ∷ judged (dependent 1) (initially ∷ nothing ∷ initially ∷ []) (2 ∷ 0 ∷ 1 ∷ []) (broken_load_value 2)
    -- preserved order before load value
    ∷ judged (program (stores 0 x 1 ∷ stores 0 x 2 ∷ loads 1 x 1 ∷ [])) (nothing ∷ nothing ∷ initially ∷ []) (1 ∷ 0 ∷ 2 ∷ [])
    (broken_ppo 0 1 (1 ∷ []))
    -- load value before atomicity, its lowest reader
    ∷ judged (pair_and_load 0) (initially ∷ nothing ∷ nothing ∷ initially ∷ []) (0 ∷ 2 ∷ 1 ∷ 3 ∷ []) (broken_load_value 3)
    ∷ judged (program (loads 0 x 1 ∷ loads 0 y 1 ∷ stores 1 x 1 ∷ stores 1 y 1 ∷ [])) (2 ∷ 3 ∷ nothing ∷ nothing ∷ [])
    (0 ∷ 1 ∷ 2 ∷ 3 ∷ []) (broken_load_value 0)
    ∷ judged (program (loads 0 x 0 ∷ loads 0 y 1 ∷ stores 1 x 1 ∷ stores 1 y 1 ∷ [])) (initially ∷ 3 ∷ nothing ∷ nothing ∷ [])
    (0 ∷ 1 ∷ 2 ∷ 3 ∷ []) (broken_load_value 1)
    -- atomicity before value read
    ∷ judged (pair_and_load 9) (initially ∷ nothing ∷ nothing ∷ 1 ∷ []) (0 ∷ 2 ∷ 1 ∷ 3 ∷ []) (broken_atomicity 0 2)
    ∷ judged (pair_and_load 9) (initially ∷ nothing ∷ nothing ∷ 2 ∷ []) (0 ∷ 1 ∷ 2 ∷ 3 ∷ []) (broken_value_read 0)
    -- value read before final value, its lowest reader
    ∷ judged (valued 1 1 1 [] (7 ∷ []) (loads 0 x 5 ∷ loads 0 x 5 ∷ [])) (initially ∷ initially ∷ []) (0 ∷ 1 ∷ [])
    (broken_value_read 0)
    ∷ judged (valued 1 1 1 [] (7 ∷ []) (loads 0 x 0 ∷ loads 0 x 5 ∷ [])) (initially ∷ initially ∷ []) (0 ∷ 1 ∷ [])
    (broken_value_read 1)
    ∷ judged (valued 1 1 1 [] (7 ∷ []) (loads 0 x 0 ∷ loads 0 x 0 ∷ [])) (initially ∷ initially ∷ []) (0 ∷ 1 ∷ [])
    (broken_final_value 0)
    -- each by itself, with the returns given: preserved order, load value, atomicity, values read, final values
    ∷ meets forwarded (nothing ∷ 0 ∷ nothing ∷ []) (0 ∷ 1 ∷ 2 ∷ []) true true true true true
    ∷ meets (twice 1 0) (2 ∷ initially ∷ nothing ∷ []) (1 ∷ 2 ∷ 0 ∷ []) false true true true true
    ∷ meets (twice 1 0) (initially ∷ initially ∷ nothing ∷ []) (1 ∷ 2 ∷ 0 ∷ []) true false true false true
    ∷ meets (pair_and_load 0) (initially ∷ nothing ∷ nothing ∷ initially ∷ []) (0 ∷ 2 ∷ 1 ∷ 3 ∷ []) true false false false true
    ∷ meets (pair_and_load 0) (initially ∷ nothing ∷ nothing ∷ 1 ∷ []) (0 ∷ 2 ∷ 1 ∷ 3 ∷ []) true true false true true
    ∷ meets (pair_and_load 9) (initially ∷ nothing ∷ nothing ∷ 2 ∷ []) (0 ∷ 1 ∷ 2 ∷ 3 ∷ []) true true true false true
    ∷ meets (valued 1 2 3 [] (1 ∷ 7 ∷ []) (stores 0 x 1 ∷ [])) (nothing ∷ []) (0 ∷ []) true true true true false
    ∷ []

-- "An order is lawful if, with the returns that it determines, preserved order, load value and atomicity hold. It is a witness if
-- besides that each reader returns its stated value and each stated final value is that of the location's last write."
abbrev pub order_cases : List Claim
order_cases =
    -- "each memory event once": one missing, one twice, a fence, a number of no event
    weighed (c4 1) (0 ∷ 1 ∷ []) true true true
    ∷ weighed (c4 1) (0 ∷ []) false false false
    ∷ weighed (c4 1) [] false false false
    ∷ weighed (c4 1) (0 ∷ 0 ∷ []) false false false
    ∷ weighed (c4 1) (0 ∷ 1 ∷ 1 ∷ []) false false false
    ∷ weighed (c4 1) (0 ∷ 1 ∷ 2 ∷ []) false false false
    ∷ weighed (program (loads 0 x 0 ∷ fences 0 0 ∷ [])) (0 ∷ []) true true true
    ∷ weighed (program (loads 0 x 0 ∷ fences 0 0 ∷ [])) (0 ∷ 1 ∷ []) false false false
    -- preserved order breaks, by a steady rule and by what the order determines
    ∷ weighed (program (loads 0 x 0 ∷ stores 0 x 1 ∷ [])) (1 ∷ 0 ∷ []) true false false
    ∷ weighed (program (loads 0 y 0 ∷ loads 0 x 0 ∷ stores 0 x 1 ∷ [])) (0 ∷ 2 ∷ 1 ∷ []) true false false
    ∷ weighed (twice 1 0) (1 ∷ 2 ∷ 0 ∷ []) true false false
    -- atomicity breaks
    ∷ weighed (c7 1) (0 ∷ 2 ∷ 1 ∷ []) true false false
    ∷ weighed reserved_own (1 ∷ 0 ∷ 3 ∷ 2 ∷ []) true false false
    ∷ weighed reserved_own (1 ∷ 3 ∷ 0 ∷ 2 ∷ []) true true true
    -- a stated value isn't read; a stated final value isn't the last
    ∷ weighed (c4 0) (0 ∷ 1 ∷ []) true true false
    ∷ weighed (c7 1) (0 ∷ 1 ∷ 2 ∷ []) true true false
    ∷ weighed (c7 2) (0 ∷ 1 ∷ 2 ∷ []) true true true
    ∷ weighed (valued 1 2 3 [] (1 ∷ 7 ∷ []) (stores 0 x 1 ∷ [])) (0 ∷ []) true true false
    ∷ weighed (valued 1 2 3 [] (1 ∷ 0 ∷ []) (stores 0 x 1 ∷ [])) (0 ∷ []) true true true
    ∷ []

-- "A prefix is a list of different memory events. It is clean if no listed event has a steady predecessor missing or standing
-- after it."
abbrev pub prefix_cases : List Claim
prefix_cases =
    cleanly c2 [] true
    ∷ cleanly c2 (0 ∷ []) true
    ∷ cleanly c2 (3 ∷ 0 ∷ 2 ∷ 5 ∷ []) true
    -- missing, standing after
    ∷ cleanly c2 (2 ∷ []) false
    ∷ cleanly c2 (2 ∷ 0 ∷ []) false
    ∷ cleanly c2 (3 ∷ 5 ∷ 2 ∷ []) false
    -- twice, a fence, a number of no event
    ∷ cleanly c2 (0 ∷ 0 ∷ []) false
    ∷ cleanly c2 (0 ∷ 1 ∷ []) false
    ∷ cleanly c2 (0 ∷ 6 ∷ []) false
    -- rules 2, 3 and 12 aren't steady
    ∷ cleanly c5 (1 ∷ 0 ∷ []) true
    ∷ cleanly (twice 0 1) (1 ∷ 0 ∷ []) true
    ∷ cleanly (dependent 1) (2 ∷ 0 ∷ []) true
    ∷ cleanly (dependent 1) (1 ∷ 0 ∷ []) false
    -- "entry by entry, and a prefix comes before its extensions"; all of them, fences left out
    ∷ all_clean (c4 1) ((0 ∷ []) ∷ (0 ∷ 1 ∷ []) ∷ (1 ∷ []) ∷ (1 ∷ 0 ∷ []) ∷ [])
    ∷ all_clean (program (loads 0 x 0 ∷ full_fence 0 ∷ stores 0 y 1 ∷ loads 1 z 0 ∷ []))
    ((0 ∷ []) ∷ (0 ∷ 2 ∷ []) ∷ (0 ∷ 2 ∷ 3 ∷ []) ∷ (0 ∷ 3 ∷ []) ∷ (0 ∷ 3 ∷ 2 ∷ []) ∷ (3 ∷ []) ∷ (3 ∷ 0 ∷ []) ∷ (3 ∷ 0 ∷ 2 ∷ [])
    ∷ [])
    -- "greater than" the start: 0 comes before 01, 01 before 1; 01 and 10 are witnesses
    ∷ searched (c4 1) [] 9 (found (0 ∷ 1 ∷ []) 2)
    ∷ searched (c4 1) (0 ∷ []) 9 (found (0 ∷ 1 ∷ []) 1)
    ∷ searched (c4 1) (0 ∷ 1 ∷ []) 9 (found (1 ∷ 0 ∷ []) 2)
    ∷ searched (c4 1) (1 ∷ []) 9 (found (1 ∷ 0 ∷ []) 1)
    ∷ searched (c4 1) (1 ∷ 0 ∷ []) 9 (none_left 0)
    -- "found .. if one is among the first B; none left, if the list has at most B entries and no witness; otherwise spent"
    ∷ searched (c4 1) [] 2 (found (0 ∷ 1 ∷ []) 2)
    ∷ searched (c4 1) [] 1 (spent (0 ∷ []) 1)
    ∷ searched (c4 0) [] 4 (none_left 4)
    ∷ searched (c4 0) [] 3 (spent (1 ∷ []) 3)
    ∷ searched c1 (0 ∷ []) 0 (spent (0 ∷ []) 0)
    ∷ []
