-- "The rules": orders, lawful orders and witnesses. Nothing here is about the search.
use Rattle.std.specs.Prelude.{ℕ, Bool, ◌&&◌, List, eqb, ltb}
use Rattle.lists.specs.Lists.{all, count}
use Rattle.table.specs.declared.Table.{Table}
use Rattle.table.specs.Events.{memory, memory_events}
use Rattle.model.specs.Returns.{returns}
use Rattle.model.specs.Axioms.{preserved_order, load_value, atomicity, values_read, final_values}

-- e is a memory event of the test
unfoldable pub is_memory_event : Table → ℕ → Bool
is_memory_event t e = ltb e t.count && memory t e

-- an order is "each memory event once"
unfoldable pub is_order : Table → List ℕ → Bool
is_order t gmo = all (is_memory_event t) gmo && all (λ e. eqb (count e gmo) 1) (memory_events t)

-- lawful (a consistent execution): "if, with the returns that it determines, preserved order, load value and atomicity hold"
unfoldable pub lawful : Table → List ℕ → Bool
lawful t gmo =
    is_order t gmo
    && preserved_order t (returns t gmo) gmo && load_value t (returns t gmo) gmo && atomicity t (returns t gmo) gmo

-- a witness of an outcome, which is a test of orders: a lawful order that gives it
unfoldable pub witness_for : Table → (List ℕ → Bool) → List ℕ → Bool
witness_for t outcome gmo = lawful t gmo && outcome gmo

-- the outcome that a table states: "each reader returns its stated value and each stated final value is that of the location's
-- last write"
unfoldable pub stated_outcome : Table → List ℕ → Bool
stated_outcome t gmo = values_read t (returns t gmo) && final_values t gmo

-- a witness: "if besides that" it gives the stated outcome
unfoldable pub witness : Table → List ℕ → Bool
witness t gmo = witness_for t (stated_outcome t) gmo
