-- The thirteen rules, clause by clause: of each small program all pairs that preserved order orders, with their rules. Every
-- list was worked by hand from the text of the rules.
use Rattle.std.specs.Prelude.{ℕ, ◌+◌, List, [], ◌∷◌}
use Rattle.table.specs.declared.Event.{Event}
use Rattle.table.specs.declared.Table.{Table}
use Rattle.model.specs.Claims.{x, y, z, v, loads, stores, swaps, reserved, conditional, fences, full_fence, fences_tso}
use Rattle.model.specs.Claims.{flagged, address_on, data_on, control_on, event0, event1}
use Rattle.model.specs.Claims.{acquire_rcpc, acquire_rcsc, release_rcpc, release_rcsc, plain_test, touching}
use Rattle.model.specs.Claims.{Ordered, steady_set, returned_set, steady, returned, initially, nothing, Claim, preserved}

-- up to two harts
abbrev program : List Event → Table
program es = plain_test 2 (touching es) es

-- no reader has an entry: rules 2, 3 and 12 hold of no pair
abbrev unread : List ℕ
unread = []

-- an LR and its SC, to one location: rules 1 and 8
abbrev pair : (a b : ℕ) → Ordered
pair a b = steady_set a b (1 ∷ 8 ∷ [])

-- "Fence flags from bit 0: pr, pw, sr, sw"
abbrev pr : ℕ
pr = 1

abbrev pw : ℕ
pw = 2

abbrev sr : ℕ
sr = 4

abbrev sw : ℕ
sw = 8

-- load (0), store (1), the fence given (2), load (3), store (4), each to a location of its own
abbrev fenced : Event → Table
fenced f = program (loads 0 x 0 ∷ stores 0 y 1 ∷ f ∷ loads 0 z 0 ∷ stores 0 v 1 ∷ [])

-- LR (0), SC (1), the fence given (2), LR (3), SC (4)
abbrev fenced_pairs : Event → Table
fenced_pairs f = program (reserved 0 x 0 ∷ conditional 0 x 1 ∷ f ∷ reserved 0 y 0 ∷ conditional 0 y 1 ∷ [])

-- AMO (0), the fence given (1), AMO (2)
abbrev fenced_amos : Event → Table
fenced_amos f = program (swaps 0 x 0 1 ∷ f ∷ swaps 0 y 0 1 ∷ [])

-- "a is earlier on the same hart, both are memory events"
abbrev pub may_order_cases : List Claim
may_order_cases =
    -- two harts: no rule, whatever the location and the annotations
    preserved (program (stores 0 x 1 ∷ stores 1 x 1 ∷ [])) unread []
    ∷ preserved (program (flagged release_rcsc (swaps 0 x 0 1) ∷ flagged acquire_rcsc (swaps 1 x 0 1) ∷ [])) unread []
    ∷ preserved (program (flagged acquire_rcsc (loads 0 x 0) ∷ flagged release_rcsc (stores 1 y 1) ∷ [])) unread []
    -- an AMO of another hart, returned from
    ∷ preserved (program (swaps 0 x 0 1 ∷ loads 1 x 1 ∷ [])) (initially ∷ 0 ∷ []) []
    -- a fence is neither a nor b, though its bits stand where annotations do
    ∷ preserved (program (full_fence 0 ∷ loads 0 x 0 ∷ full_fence 0 ∷ [])) unread []
    ∷ []

-- 1. "b writes, same location."
abbrev pub rule1_cases : List Claim
rule1_cases =
    -- each kind as a and as b: a store, AMO or SC as b, never a load or LR (rule 8 holds of the LR and its SC)
    preserved (program (loads 0 x 0 ∷ stores 0 x 1 ∷ swaps 0 x 0 1 ∷ reserved 0 x 0 ∷ conditional 0 x 1 ∷ stores 0 x 1 ∷ []))
    unread
    (steady 1 0 1 ∷ steady 1 0 2 ∷ steady 1 0 4 ∷ steady 1 0 5 ∷ steady 1 1 2 ∷ steady 1 1 4 ∷ steady 1 1 5 ∷ steady 1 2 4
    ∷ steady 1 2 5 ∷ pair 3 4 ∷ steady 1 3 5 ∷ steady 1 4 5 ∷ [])
    -- another location
    ∷ preserved (program (loads 0 x 0 ∷ stores 0 y 1 ∷ swaps 0 z 0 1 ∷ [])) unread []
    -- a store and a later load of its location
    ∷ preserved (program (stores 0 x 1 ∷ loads 0 x 0 ∷ [])) unread []
    ∷ []

-- 2. "Both read one location, no writer to it strictly between, and they return from different writes."
abbrev pub rule2_cases : List Claim
rule2_cases =
    preserved (program (loads 0 x 0 ∷ loads 0 x 1 ∷ stores 1 x 1 ∷ [])) (initially ∷ 2 ∷ nothing ∷ []) (returned 2 0 1 ∷ [])
    ∷ preserved (program (loads 0 x 1 ∷ loads 0 x 0 ∷ stores 1 x 1 ∷ [])) (2 ∷ initially ∷ nothing ∷ []) (returned 2 0 1 ∷ [])
    -- from one write
    ∷ preserved (program (loads 0 x 0 ∷ loads 0 x 0 ∷ stores 1 x 1 ∷ [])) (initially ∷ initially ∷ nothing ∷ []) []
    ∷ preserved (program (loads 0 x 1 ∷ loads 0 x 1 ∷ stores 1 x 1 ∷ [])) (2 ∷ 2 ∷ nothing ∷ []) []
    -- "Rule 2 compares writes, not values"
    ∷ preserved (program (loads 0 x 1 ∷ loads 0 x 1 ∷ stores 1 x 1 ∷ stores 1 x 1 ∷ [])) (2 ∷ 3 ∷ nothing ∷ nothing ∷ [])
    (returned 2 0 1 ∷ steady 1 2 3 ∷ [])
    -- two locations
    ∷ preserved (program (loads 0 x 0 ∷ loads 0 y 1 ∷ stores 1 y 1 ∷ [])) (initially ∷ 2 ∷ nothing ∷ []) []
    -- a writer to it between: a store, an AMO, an SC
    ∷ preserved (program (loads 0 x 0 ∷ stores 0 x 2 ∷ loads 0 x 1 ∷ stores 1 x 1 ∷ []))
    (initially ∷ nothing ∷ 3 ∷ nothing ∷ []) (steady 1 0 1 ∷ [])
    ∷ preserved (program (loads 0 x 0 ∷ swaps 0 x 0 1 ∷ loads 0 x 1 ∷ [])) (initially ∷ initially ∷ 1 ∷ [])
    (steady 1 0 1 ∷ returned_set 1 2 (2 ∷ 3 ∷ []) ∷ [])
    ∷ preserved (program (loads 0 x 0 ∷ reserved 0 x 0 ∷ conditional 0 x 1 ∷ loads 0 x 1 ∷ []))
    (initially ∷ initially ∷ nothing ∷ 2 ∷ []) (steady 1 0 2 ∷ pair 1 2 ∷ returned 3 2 3 ∷ [])
    -- between are a writer to another location, a reader, or another hart's writer by its number
    ∷ preserved (program (loads 0 x 0 ∷ stores 0 y 2 ∷ loads 0 x 1 ∷ stores 1 x 1 ∷ []))
    (initially ∷ nothing ∷ 3 ∷ nothing ∷ []) (returned 2 0 2 ∷ [])
    ∷ preserved (program (loads 0 x 0 ∷ loads 0 x 0 ∷ loads 0 x 1 ∷ stores 1 x 1 ∷ []))
    (initially ∷ initially ∷ 3 ∷ nothing ∷ []) (returned 2 0 2 ∷ returned 2 1 2 ∷ [])
    ∷ preserved (program (loads 0 x 0 ∷ stores 1 x 1 ∷ loads 0 x 1 ∷ [])) (initially ∷ nothing ∷ 1 ∷ []) (returned 2 0 2 ∷ [])
    -- a writer to it before a, or after b
    ∷ preserved (program (stores 0 x 2 ∷ loads 0 x 2 ∷ loads 0 x 1 ∷ stores 1 x 1 ∷ [])) (nothing ∷ 0 ∷ 3 ∷ nothing ∷ [])
    (returned 2 1 2 ∷ [])
    ∷ preserved (program (loads 0 x 0 ∷ loads 0 x 1 ∷ stores 0 x 2 ∷ stores 1 x 1 ∷ []))
    (initially ∷ 3 ∷ nothing ∷ nothing ∷ []) (returned 2 0 1 ∷ steady 1 0 2 ∷ steady 1 1 2 ∷ [])
    -- an AMO reads, as a (C5) and as b; so does an LR
    ∷ preserved (program (loads 0 x 0 ∷ swaps 0 x 1 2 ∷ stores 1 x 1 ∷ [])) (initially ∷ 2 ∷ nothing ∷ [])
    (steady_set 0 1 (1 ∷ 2 ∷ []) ∷ [])
    ∷ preserved (program (reserved 0 x 0 ∷ loads 0 x 1 ∷ stores 1 x 1 ∷ [])) (initially ∷ 2 ∷ nothing ∷ [])
    (returned 2 0 1 ∷ [])
    ∷ preserved (program (loads 0 x 0 ∷ reserved 0 x 1 ∷ stores 1 x 1 ∷ [])) (initially ∷ 2 ∷ nothing ∷ [])
    (returned 2 0 1 ∷ [])
    -- a store doesn't read, as a or as b
    ∷ preserved (program (stores 0 x 1 ∷ loads 0 x 2 ∷ stores 1 x 2 ∷ [])) (nothing ∷ 2 ∷ nothing ∷ []) []
    ∷ preserved (program (loads 0 x 0 ∷ stores 0 x 1 ∷ [])) (initially ∷ nothing ∷ []) (steady 1 0 1 ∷ [])
    ∷ []

-- 3. "a is an AMO or SC, b reads and returns from a."
abbrev pub rule3_cases : List Claim
rule3_cases =
    -- an AMO, with rule 2 (C5) and without; an SC; b an LR, an AMO
    preserved (program (swaps 0 x 0 1 ∷ stores 0 x 2 ∷ loads 0 x 1 ∷ [])) (initially ∷ nothing ∷ 0 ∷ [])
    (steady 1 0 1 ∷ returned 3 0 2 ∷ [])
    ∷ preserved (program (reserved 0 x 0 ∷ conditional 0 x 1 ∷ loads 0 x 1 ∷ [])) (initially ∷ nothing ∷ 1 ∷ [])
    (pair 0 1 ∷ returned 3 1 2 ∷ [])
    ∷ preserved (program (swaps 0 x 0 1 ∷ reserved 0 x 1 ∷ [])) (initially ∷ 0 ∷ []) (returned_set 0 1 (2 ∷ 3 ∷ []) ∷ [])
    ∷ preserved (program (swaps 0 x 0 1 ∷ swaps 0 x 1 2 ∷ [])) (initially ∷ 0 ∷ []) (steady_set 0 1 (1 ∷ 2 ∷ 3 ∷ []) ∷ [])
    -- a plain store doesn't count
    ∷ preserved (program (stores 0 x 1 ∷ loads 0 x 1 ∷ [])) (nothing ∷ 0 ∷ []) []
    -- b returns from elsewhere
    ∷ preserved (program (reserved 0 x 0 ∷ conditional 0 x 1 ∷ loads 0 x 0 ∷ [])) (initially ∷ nothing ∷ initially ∷ [])
    (pair 0 1 ∷ [])
    ∷ preserved (program (swaps 0 x 0 1 ∷ loads 0 x 0 ∷ [])) (initially ∷ initially ∷ []) []
    ∷ []

-- 4. "A fence between: a reads and pr or a writes and pw, with b reads and sr or b writes and sw; or fence.tso, where event a
-- reads or both write."
abbrev pub rule4_cases : List Claim
rule4_cases =
    preserved (fenced (fences 0 (pr + sr))) unread (steady 4 0 3 ∷ [])
    ∷ preserved (fenced (fences 0 (pr + sw))) unread (steady 4 0 4 ∷ [])
    ∷ preserved (fenced (fences 0 (pw + sr))) unread (steady 4 1 3 ∷ [])
    ∷ preserved (fenced (fences 0 (pw + sw))) unread (steady 4 1 4 ∷ [])
    ∷ preserved (fenced (full_fence 0)) unread (steady 4 0 3 ∷ steady 4 0 4 ∷ steady 4 1 3 ∷ steady 4 1 4 ∷ [])
    -- one bit, or bits of one side, order nothing; "all four may be clear, and such a fence orders nothing"
    ∷ preserved (fenced (fences 0 pr)) unread []
    ∷ preserved (fenced (fences 0 pw)) unread []
    ∷ preserved (fenced (fences 0 sr)) unread []
    ∷ preserved (fenced (fences 0 sw)) unread []
    ∷ preserved (fenced (fences 0 (pr + pw))) unread []
    ∷ preserved (fenced (fences 0 (sr + sw))) unread []
    ∷ preserved (fenced (fences 0 0)) unread []
    -- an LR reads, an SC writes (rules 1 and 8 order each pair)
    ∷ preserved (fenced_pairs (fences 0 (pr + sr))) unread (pair 0 1 ∷ steady 4 0 3 ∷ pair 3 4 ∷ [])
    ∷ preserved (fenced_pairs (fences 0 (pr + sw))) unread (pair 0 1 ∷ steady 4 0 4 ∷ pair 3 4 ∷ [])
    ∷ preserved (fenced_pairs (fences 0 (pw + sr))) unread (pair 0 1 ∷ steady 4 1 3 ∷ pair 3 4 ∷ [])
    ∷ preserved (fenced_pairs (fences 0 (pw + sw))) unread (pair 0 1 ∷ steady 4 1 4 ∷ pair 3 4 ∷ [])
    -- an AMO counts on both sides
    ∷ preserved (fenced_amos (fences 0 (pr + sr))) unread (steady 4 0 2 ∷ [])
    ∷ preserved (fenced_amos (fences 0 (pr + sw))) unread (steady 4 0 2 ∷ [])
    ∷ preserved (fenced_amos (fences 0 (pw + sr))) unread (steady 4 0 2 ∷ [])
    ∷ preserved (fenced_amos (fences 0 (pw + sw))) unread (steady 4 0 2 ∷ [])
    ∷ preserved (fenced_amos (fences 0 pr)) unread []
    ∷ preserved (fenced_amos (fences 0 pw)) unread []
    ∷ preserved (fenced_amos (fences 0 sr)) unread []
    ∷ preserved (fenced_amos (fences 0 sw)) unread []
    ∷ preserved (fenced_amos (fences 0 (pr + pw))) unread []
    ∷ preserved (fenced_amos (fences 0 (sr + sw))) unread []
    -- fence.tso: all but a store and a later load
    ∷ preserved (fenced (fences_tso 0)) unread (steady 4 0 3 ∷ steady 4 0 4 ∷ steady 4 1 4 ∷ [])
    ∷ preserved (fenced_pairs (fences_tso 0)) unread (pair 0 1 ∷ steady 4 0 3 ∷ steady 4 0 4 ∷ steady 4 1 4 ∷ pair 3 4 ∷ [])
    ∷ preserved (program (swaps 0 x 0 1 ∷ fences_tso 0 ∷ loads 0 y 0 ∷ [])) unread (steady 4 0 2 ∷ [])
    ∷ preserved (program (stores 0 x 1 ∷ fences_tso 0 ∷ swaps 0 y 0 1 ∷ [])) unread (steady 4 0 2 ∷ [])
    -- before a, after b, or another hart's by its number: not between
    ∷ preserved (program (full_fence 0 ∷ loads 0 x 0 ∷ loads 0 y 0 ∷ full_fence 0 ∷ [])) unread []
    ∷ preserved (program (fences_tso 0 ∷ loads 0 x 0 ∷ loads 0 y 0 ∷ fences_tso 0 ∷ [])) unread []
    ∷ preserved (program (loads 0 x 0 ∷ full_fence 1 ∷ fences_tso 1 ∷ loads 0 y 0 ∷ [])) unread []
    -- annotations that stand where pr and sw do make no fence: rules 5 and 6 order the annotated event alone
    ∷ preserved (program (loads 0 x 0 ∷ flagged (acquire_rcpc + release_rcsc) (swaps 0 y 0 1) ∷ stores 0 z 1 ∷ [])) unread
    (steady 6 0 1 ∷ steady 5 1 2 ∷ [])
    ∷ []

-- 5. "a has an acquire."
abbrev pub rule5_cases : List Claim
rule5_cases =
    preserved (program (flagged acquire_rcpc (loads 0 x 0) ∷ loads 0 y 0 ∷ [])) unread (steady 5 0 1 ∷ [])
    ∷ preserved (program (flagged acquire_rcsc (loads 0 x 0) ∷ stores 0 y 1 ∷ [])) unread (steady 5 0 1 ∷ [])
    ∷ preserved (program (flagged acquire_rcpc (swaps 0 x 0 1) ∷ loads 0 y 0 ∷ [])) unread (steady 5 0 1 ∷ [])
    ∷ preserved (program (flagged acquire_rcsc (swaps 0 x 0 1) ∷ stores 0 y 1 ∷ [])) unread (steady 5 0 1 ∷ [])
    ∷ preserved (program (flagged acquire_rcpc (reserved 0 x 0) ∷ swaps 0 y 0 1 ∷ [])) unread (steady 5 0 1 ∷ [])
    ∷ preserved (program (flagged acquire_rcsc (reserved 0 x 0) ∷ loads 0 y 0 ∷ [])) unread (steady 5 0 1 ∷ [])
    -- a store and an SC have an acquire only beside a release
    ∷ preserved (program (flagged (acquire_rcpc + release_rcpc) (stores 0 x 1) ∷ loads 0 y 0 ∷ [])) unread (steady 5 0 1 ∷ [])
    ∷ preserved (program (flagged (acquire_rcsc + release_rcpc) (stores 0 x 1) ∷ loads 0 y 0 ∷ [])) unread (steady 5 0 1 ∷ [])
    ∷ preserved (program (reserved 0 x 0 ∷ flagged (acquire_rcpc + release_rcpc) (conditional 0 x 1) ∷ loads 0 y 0 ∷ [])) unread
    (steady_set 0 1 (1 ∷ 6 ∷ 8 ∷ []) ∷ steady 5 1 2 ∷ [])
    ∷ preserved (program (reserved 0 x 0 ∷ flagged (acquire_rcsc + release_rcpc) (conditional 0 x 1) ∷ loads 0 y 0 ∷ [])) unread
    (steady_set 0 1 (1 ∷ 6 ∷ 8 ∷ []) ∷ steady 5 1 2 ∷ [])
    -- b's acquire orders nothing, nor does a's release
    ∷ preserved (program (loads 0 x 0 ∷ flagged acquire_rcpc (loads 0 y 0) ∷ [])) unread []
    ∷ preserved (program (loads 0 x 0 ∷ flagged acquire_rcsc (loads 0 y 0) ∷ [])) unread []
    ∷ preserved (program (flagged release_rcpc (stores 0 x 1) ∷ loads 0 y 0 ∷ [])) unread []
    ∷ preserved (program (flagged release_rcsc (stores 0 x 1) ∷ loads 0 y 0 ∷ [])) unread []
    ∷ []

-- 6. "b has a release."
abbrev pub rule6_cases : List Claim
rule6_cases =
    preserved (program (loads 0 x 0 ∷ flagged release_rcpc (stores 0 y 1) ∷ [])) unread (steady 6 0 1 ∷ [])
    ∷ preserved (program (stores 0 x 1 ∷ flagged release_rcsc (stores 0 y 1) ∷ [])) unread (steady 6 0 1 ∷ [])
    ∷ preserved (program (loads 0 x 0 ∷ flagged release_rcpc (swaps 0 y 0 1) ∷ [])) unread (steady 6 0 1 ∷ [])
    ∷ preserved (program (swaps 0 x 0 1 ∷ flagged release_rcsc (swaps 0 y 0 1) ∷ [])) unread (steady 6 0 1 ∷ [])
    ∷ preserved (program (loads 0 x 0 ∷ reserved 0 y 0 ∷ flagged release_rcpc (conditional 0 y 1) ∷ [])) unread
    (steady 6 0 2 ∷ steady_set 1 2 (1 ∷ 6 ∷ 8 ∷ []) ∷ [])
    ∷ preserved (program (loads 0 x 0 ∷ reserved 0 y 0 ∷ flagged release_rcsc (conditional 0 y 1) ∷ [])) unread
    (steady 6 0 2 ∷ steady_set 1 2 (1 ∷ 6 ∷ 8 ∷ []) ∷ [])
    -- a load and an LR have a release only beside an acquire
    ∷ preserved (program (loads 0 x 0 ∷ flagged (acquire_rcpc + release_rcpc) (loads 0 y 0) ∷ [])) unread (steady 6 0 1 ∷ [])
    ∷ preserved (program (loads 0 x 0 ∷ flagged (acquire_rcpc + release_rcsc) (loads 0 y 0) ∷ [])) unread (steady 6 0 1 ∷ [])
    ∷ preserved (program (loads 0 x 0 ∷ flagged (acquire_rcsc + release_rcpc) (reserved 0 y 0) ∷ [])) unread (steady 6 0 1 ∷ [])
    ∷ preserved (program (loads 0 x 0 ∷ flagged (acquire_rcsc + release_rcsc) (reserved 0 y 0) ∷ [])) unread (steady 6 0 1 ∷ [])
    ∷ []

-- 7. "Both have an RCsc annotation."
abbrev pub rule7_cases : List Claim
rule7_cases =
    preserved (program (flagged release_rcsc (stores 0 x 1) ∷ flagged acquire_rcsc (loads 0 y 0) ∷ [])) unread (steady 7 0 1 ∷ [])
    ∷ preserved (program (flagged release_rcsc (swaps 0 x 0 1) ∷ flagged acquire_rcsc (swaps 0 y 0 1) ∷ [])) unread
    (steady 7 0 1 ∷ [])
    -- not the same one on each side, and not of the other kind
    ∷ preserved (program (flagged acquire_rcsc (loads 0 x 0) ∷ flagged acquire_rcsc (loads 0 y 0) ∷ [])) unread
    (steady_set 0 1 (5 ∷ 7 ∷ []) ∷ [])
    ∷ preserved (program (flagged release_rcsc (stores 0 x 1) ∷ flagged release_rcsc (stores 0 y 1) ∷ [])) unread
    (steady_set 0 1 (6 ∷ 7 ∷ []) ∷ [])
    ∷ preserved (program (flagged acquire_rcsc (loads 0 x 0) ∷ flagged release_rcsc (stores 0 y 1) ∷ [])) unread
    (steady_set 0 1 (5 ∷ 6 ∷ 7 ∷ []) ∷ [])
    -- RCpc on a side, or none
    ∷ preserved (program (flagged release_rcpc (stores 0 x 1) ∷ flagged acquire_rcpc (loads 0 y 0) ∷ [])) unread []
    ∷ preserved (program (flagged release_rcsc (stores 0 x 1) ∷ flagged acquire_rcpc (loads 0 y 0) ∷ [])) unread []
    ∷ preserved (program (flagged release_rcpc (stores 0 x 1) ∷ flagged acquire_rcsc (loads 0 y 0) ∷ [])) unread []
    ∷ preserved (program (flagged release_rcsc (stores 0 x 1) ∷ loads 0 y 0 ∷ [])) unread []
    ∷ preserved (program (stores 0 x 1 ∷ flagged acquire_rcsc (loads 0 y 0) ∷ [])) unread []
    ∷ []

-- 8. "a is the LR paired with SC b."
abbrev pub rule8_cases : List Claim
rule8_cases =
    preserved (program (reserved 0 x 0 ∷ conditional 0 x 1 ∷ [])) unread (pair 0 1 ∷ [])
    -- of two LRs the second is paired; of two pairs each LR with its own SC
    ∷ preserved (program (reserved 0 x 0 ∷ reserved 0 x 0 ∷ conditional 0 x 1 ∷ [])) unread (steady 1 0 2 ∷ pair 1 2 ∷ [])
    ∷ preserved (program (reserved 0 x 0 ∷ conditional 0 x 1 ∷ reserved 0 x 0 ∷ conditional 0 x 2 ∷ [])) unread
    (pair 0 1 ∷ steady 1 0 3 ∷ steady 1 1 3 ∷ pair 2 3 ∷ [])
    -- other kinds may stand between, and other harts' LR and SC
    ∷ preserved (program (reserved 0 x 0 ∷ loads 0 y 0 ∷ stores 0 z 1 ∷ swaps 0 v 0 1 ∷ fences 0 0 ∷ conditional 0 x 1 ∷ []))
    unread (pair 0 5 ∷ [])
    ∷ preserved (program (reserved 0 x 0 ∷ reserved 1 x 0 ∷ conditional 0 x 1 ∷ conditional 1 x 1 ∷ [])) unread
    (pair 0 2 ∷ pair 1 3 ∷ [])
    ∷ []

-- 9. "b's address depends on a."
abbrev pub rule9_cases : List Claim
rule9_cases =
    -- each kind as b
    preserved (program (loads 0 x 0 ∷ address_on event0 (loads 0 y 0) ∷ [])) unread (steady 9 0 1 ∷ [])
    ∷ preserved (program (loads 0 x 0 ∷ address_on event0 (stores 0 y 1) ∷ [])) unread (steady 9 0 1 ∷ [])
    ∷ preserved (program (loads 0 x 0 ∷ address_on event0 (swaps 0 y 0 1) ∷ [])) unread (steady 9 0 1 ∷ [])
    ∷ preserved (program (loads 0 x 0 ∷ address_on event0 (reserved 0 y 0) ∷ [])) unread (steady 9 0 1 ∷ [])
    ∷ preserved (program (loads 0 x 0 ∷ reserved 0 y 0 ∷ address_on event0 (conditional 0 y 1) ∷ [])) unread
    (steady 9 0 2 ∷ pair 1 2 ∷ [])
    -- on an AMO, an LR, an SC's result
    ∷ preserved (program (swaps 0 x 0 1 ∷ address_on event0 (loads 0 y 0) ∷ [])) unread (steady 9 0 1 ∷ [])
    ∷ preserved (program (reserved 0 x 0 ∷ conditional 0 x 1 ∷ address_on event1 (loads 0 y 0) ∷ [])) unread
    (pair 0 1 ∷ steady 9 1 2 ∷ [])
    -- on the event that the bit names, and no other
    ∷ preserved (program (loads 0 x 0 ∷ loads 0 y 0 ∷ address_on event1 (loads 0 z 0) ∷ [])) unread (steady 9 1 2 ∷ [])
    ∷ []

-- 10. "b's data depends on a."
abbrev pub rule10_cases : List Claim
rule10_cases =
    -- each kind that writes
    preserved (program (loads 0 x 0 ∷ data_on event0 (stores 0 y 1) ∷ [])) unread (steady 10 0 1 ∷ [])
    ∷ preserved (program (loads 0 x 0 ∷ data_on event0 (swaps 0 y 0 1) ∷ [])) unread (steady 10 0 1 ∷ [])
    ∷ preserved (program (loads 0 x 0 ∷ reserved 0 y 0 ∷ data_on event0 (conditional 0 y 1) ∷ [])) unread
    (steady 10 0 2 ∷ pair 1 2 ∷ [])
    ∷ preserved (program (loads 0 x 0 ∷ loads 0 y 0 ∷ data_on event1 (stores 0 z 1) ∷ [])) unread (steady 10 1 2 ∷ [])
    ∷ []

-- 11. "b writes and has a control dependency on a."
abbrev pub rule11_cases : List Claim
rule11_cases =
    preserved (program (loads 0 x 0 ∷ control_on event0 (stores 0 y 1) ∷ [])) unread (steady 11 0 1 ∷ [])
    ∷ preserved (program (loads 0 x 0 ∷ control_on event0 (swaps 0 y 0 1) ∷ [])) unread (steady 11 0 1 ∷ [])
    ∷ preserved (program (loads 0 x 0 ∷ reserved 0 y 0 ∷ control_on event0 (conditional 0 y 1) ∷ [])) unread
    (steady 11 0 2 ∷ pair 1 2 ∷ [])
    ∷ preserved (program (loads 0 x 0 ∷ loads 0 y 0 ∷ control_on event1 (stores 0 z 1) ∷ [])) unread (steady 11 1 2 ∷ [])
    -- "A control dependency doesn't order a later load", nor an LR
    ∷ preserved (program (loads 0 x 0 ∷ control_on event0 (loads 0 y 0) ∷ [])) unread []
    ∷ preserved (program (loads 0 x 0 ∷ control_on event0 (reserved 0 y 0) ∷ [])) unread []
    -- all three dependencies at once
    ∷ preserved (program (loads 0 x 0 ∷ address_on event0 (data_on event0 (control_on event0 (stores 0 y 1))) ∷ [])) unread
    (steady_set 0 1 (9 ∷ 10 ∷ 11 ∷ []) ∷ [])
    ∷ []

-- 12. "b reads from a writer m strictly between, whose address or data depends on a."
abbrev pub rule12_cases : List Claim
rule12_cases =
    -- m a store, an AMO, an SC, by its data and by its address
    preserved (program (loads 0 x 0 ∷ data_on event0 (stores 0 y 1) ∷ loads 0 y 1 ∷ [])) (initially ∷ nothing ∷ 1 ∷ [])
    (steady 10 0 1 ∷ returned 12 0 2 ∷ [])
    ∷ preserved (program (loads 0 x 0 ∷ address_on event0 (stores 0 y 1) ∷ loads 0 y 1 ∷ [])) (initially ∷ nothing ∷ 1 ∷ [])
    (steady 9 0 1 ∷ returned 12 0 2 ∷ [])
    ∷ preserved (program (loads 0 x 0 ∷ data_on event0 (swaps 0 y 0 1) ∷ loads 0 y 1 ∷ [])) (initially ∷ initially ∷ 1 ∷ [])
    (steady 10 0 1 ∷ returned 12 0 2 ∷ returned_set 1 2 (2 ∷ 3 ∷ []) ∷ [])
    ∷ preserved (program (loads 0 x 0 ∷ reserved 0 y 0 ∷ data_on event0 (conditional 0 y 1) ∷ loads 0 y 1 ∷ []))
    (initially ∷ initially ∷ nothing ∷ 2 ∷ []) (steady 10 0 2 ∷ returned 12 0 3 ∷ pair 1 2 ∷ returned 3 2 3 ∷ [])
    ∷ preserved (program (loads 0 x 0 ∷ address_on event0 (swaps 0 y 0 1) ∷ loads 0 y 1 ∷ [])) (initially ∷ initially ∷ 1 ∷ [])
    (steady 9 0 1 ∷ returned 12 0 2 ∷ returned_set 1 2 (2 ∷ 3 ∷ []) ∷ [])
    ∷ preserved (program (loads 0 x 0 ∷ reserved 0 y 0 ∷ address_on event0 (conditional 0 y 1) ∷ loads 0 y 1 ∷ []))
    (initially ∷ initially ∷ nothing ∷ 2 ∷ []) (steady 9 0 2 ∷ returned 12 0 3 ∷ pair 1 2 ∷ returned 3 2 3 ∷ [])
    -- b an AMO, an LR
    ∷ preserved (program (loads 0 x 0 ∷ data_on event0 (stores 0 y 1) ∷ swaps 0 y 1 2 ∷ [])) (initially ∷ nothing ∷ 1 ∷ [])
    (steady 10 0 1 ∷ returned 12 0 2 ∷ steady 1 1 2 ∷ [])
    ∷ preserved (program (loads 0 x 0 ∷ data_on event0 (stores 0 y 1) ∷ reserved 0 y 1 ∷ [])) (initially ∷ nothing ∷ 1 ∷ [])
    (steady 10 0 1 ∷ returned 12 0 2 ∷ [])
    -- a control dependency doesn't count (line 9: b has it too)
    ∷ preserved (program (loads 0 x 0 ∷ control_on event0 (stores 0 y 1) ∷ control_on event0 (loads 0 y 1) ∷ []))
    (initially ∷ nothing ∷ 1 ∷ []) (steady 11 0 1 ∷ [])
    -- b returns from another write: the initial one, or a store that doesn't depend on a
    ∷ preserved (program (loads 0 x 0 ∷ data_on event0 (stores 0 y 1) ∷ loads 0 y 0 ∷ [])) (initially ∷ nothing ∷ initially ∷ [])
    (steady 10 0 1 ∷ [])
    ∷ preserved (program (loads 0 x 0 ∷ data_on event0 (stores 0 y 1) ∷ stores 0 y 2 ∷ loads 0 y 2 ∷ []))
    (initially ∷ nothing ∷ nothing ∷ 2 ∷ []) (steady 10 0 1 ∷ steady 1 1 2 ∷ [])
    -- m depends on a, and on no other load
    ∷ preserved (program (loads 0 x 0 ∷ loads 0 z 0 ∷ data_on event1 (stores 0 y 1) ∷ loads 0 y 1 ∷ []))
    (initially ∷ initially ∷ nothing ∷ 2 ∷ []) (steady 10 1 2 ∷ returned 12 1 3 ∷ [])
    -- m after b
    ∷ preserved (program (loads 0 x 0 ∷ loads 0 y 1 ∷ data_on event0 (stores 0 y 1) ∷ [])) (initially ∷ 2 ∷ nothing ∷ [])
    (steady 10 0 2 ∷ steady 1 1 2 ∷ [])
    ∷ []

-- 13. "b writes, and some m strictly between has an address dependency on a."
abbrev pub rule13_cases : List Claim
rule13_cases =
    -- each kind as m
    preserved (program (loads 0 x 0 ∷ address_on event0 (loads 0 y 0) ∷ stores 0 z 1 ∷ [])) unread
    (steady 9 0 1 ∷ steady 13 0 2 ∷ [])
    ∷ preserved (program (loads 0 x 0 ∷ address_on event0 (stores 0 y 1) ∷ stores 0 z 1 ∷ [])) unread
    (steady 9 0 1 ∷ steady 13 0 2 ∷ [])
    ∷ preserved (program (loads 0 x 0 ∷ address_on event0 (swaps 0 y 0 1) ∷ stores 0 z 1 ∷ [])) unread
    (steady 9 0 1 ∷ steady 13 0 2 ∷ [])
    ∷ preserved (program (loads 0 x 0 ∷ address_on event0 (reserved 0 y 0) ∷ stores 0 z 1 ∷ [])) unread
    (steady 9 0 1 ∷ steady 13 0 2 ∷ [])
    ∷ preserved (program (loads 0 x 0 ∷ reserved 0 y 0 ∷ address_on event0 (conditional 0 y 1) ∷ stores 0 z 1 ∷ [])) unread
    (steady 9 0 2 ∷ steady 13 0 3 ∷ pair 1 2 ∷ [])
    -- b an AMO, an SC; not a load, not an LR
    ∷ preserved (program (loads 0 x 0 ∷ address_on event0 (loads 0 y 0) ∷ swaps 0 z 0 1 ∷ [])) unread
    (steady 9 0 1 ∷ steady 13 0 2 ∷ [])
    ∷ preserved (program (loads 0 x 0 ∷ reserved 0 z 0 ∷ address_on event0 (loads 0 y 0) ∷ conditional 0 z 1 ∷ [])) unread
    (steady 9 0 2 ∷ steady 13 0 3 ∷ pair 1 3 ∷ [])
    ∷ preserved (program (loads 0 x 0 ∷ address_on event0 (loads 0 y 0) ∷ loads 0 z 0 ∷ [])) unread (steady 9 0 1 ∷ [])
    ∷ preserved (program (loads 0 x 0 ∷ address_on event0 (loads 0 y 0) ∷ reserved 0 z 0 ∷ [])) unread (steady 9 0 1 ∷ [])
    -- neither data nor control counts (line 9: b has the control dependency too, rule 11)
    ∷ preserved (program (loads 0 x 0 ∷ data_on event0 (stores 0 y 1) ∷ stores 0 z 1 ∷ [])) unread (steady 10 0 1 ∷ [])
    ∷ preserved (program (loads 0 x 0 ∷ control_on event0 (loads 0 y 0) ∷ control_on event0 (stores 0 z 1) ∷ [])) unread
    (steady 11 0 2 ∷ [])
    -- m after b; m depends on a, and on no other load
    ∷ preserved (program (loads 0 x 0 ∷ stores 0 z 1 ∷ address_on event0 (loads 0 y 0) ∷ [])) unread (steady 9 0 2 ∷ [])
    ∷ preserved (program (loads 0 x 0 ∷ loads 0 v 0 ∷ address_on event1 (loads 0 y 0) ∷ stores 0 z 1 ∷ [])) unread
    (steady 9 1 2 ∷ steady 13 1 3 ∷ [])
    ∷ []
