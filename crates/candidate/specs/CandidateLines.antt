-- "When the bench declines a table": lines 12 to 16, each a test of the table and of a list or buffer.
use Rattle.std.specs.Prelude.{ℕ, Bool, cond, ◌&&◌, not, List, length, eqb, ltb}
use Rattle.lists.specs.Below.{some}
use Rattle.table.specs.declared.Table.{Table}
use Rattle.table.specs.Events.{reads, writes, same_location, memory_count}
use Rattle.model.specs.Rules.{nothing, initially, from}
use Rattle.model.specs.Witness.{is_order}

-- 12: "an order whose length isn't M (the number of memory events)"
unfoldable pub order_length_wrong : Table → List ℕ → Bool
order_length_wrong t gmo = not (eqb (length gmo) (memory_count t))

-- 12: "or a returned list whose length isn't the number of events"
unfoldable pub returned_length_wrong : Table → List ℕ → Bool
returned_length_wrong t rf = not (eqb (length rf) t.count)

-- 13: "the order isn't each memory event once"
unfoldable pub order_wrong : Table → List ℕ → Bool
order_wrong t gmo = not (is_order t gmo)

-- w is a writer of the test to the location of e
unfoldable pub writer_for : Table → ℕ → ℕ → Bool
writer_for t e w = ltb w t.count && writes t w && same_location t w e

-- 14: "a non-reader's entry isn't 254, or a reader's is neither 255 (initial) nor a writer to its location"
unfoldable pub entry_wrong : Table → List ℕ → ℕ → Bool
entry_wrong t rf e =
    cond (reads t e) (not (eqb (from rf e) initially) && not (writer_for t e (from rf e))) (not (eqb (from rf e) nothing))

unfoldable pub returned_wrong : Table → List ℕ → Bool
returned_wrong t rf = some t.count (entry_wrong t rf)

-- 15: "a search's start isn't a clean prefix (below), nor empty" (the empty list is a clean prefix by its definition); passes:
-- the test of clean prefixes
unfoldable pub start_wrong : (List ℕ → Bool) → List ℕ → Bool
start_wrong passes start = not (passes start)

-- 16: "answer buffer too short: under M bytes for a search"
unfoldable pub order_too_short : Table → List ℕ → Bool
order_too_short t out = ltb (length out) (memory_count t)

-- 16: "under the number of events for a returned list"
unfoldable pub returns_too_short : Table → List ℕ → Bool
returns_too_short t out = ltb (length out) t.count
