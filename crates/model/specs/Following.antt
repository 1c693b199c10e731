-- "Tests as text": the values that follow from an order, and when a condition holds in it.
use Rattle.std.specs.Prelude.{ℕ, zero, suc, Bool, false, cond, not, ◌&&◌, ◌||◌, List, length, eqb, ltb, leb}
use Rattle.operation.specs.Operation.{no_operation, applied}
use Rattle.table.specs.declared.Table.{Table}
use Rattle.table.specs.Events.{event, reads}
use Rattle.text_format.specs.Condition.{Condition, returns as returning, ends, negated, both, either}
use Rattle.model.specs.Rules.{initially}
use Rattle.model.specs.Returns.{return_of, returns, initial_value, value_read, value_at_end}

-- what the write w (or the initial write) leaves at location x, looking back at most n writes: an AMO with an operation "writes
-- what follows from what the order makes it return"
unfoldable pub leaves_within : ℕ → Table → List ℕ → ℕ → ℕ → ℕ
leaves_within zero t gmo x w = 0
leaves_within (suc n) t gmo x w =
    let returned = leaves_within n t gmo x (return_of t gmo w) in
    cond (eqb w initially) (initial_value t x)
    (cond (eqb (event t w).operation no_operation) (event t w).written (applied (event t w).operation returned (event t w).operand))

-- no chain of writes, each of which returns from the next, is longer than a clean order and its initial write
unfoldable pub leaves : Table → List ℕ → ℕ → ℕ → ℕ
leaves t gmo x w = leaves_within (suc (length gmo)) t gmo x w

-- "event 3 returns 1": the value that reader e returns
unfoldable pub returned_value : Table → List ℕ → ℕ → ℕ
returned_value t gmo e = value_read t (leaves t gmo) (returns t gmo) e

-- "location 0 ends at 2": the value of location x at the end
unfoldable pub end_value : Table → List ℕ → ℕ → ℕ
end_value t gmo x = value_at_end t (leaves t gmo) gmo x

-- the order "makes the condition true"
unfoldable pub meets : Table → Condition → List ℕ → Bool
meets t (returning e v) gmo = eqb (returned_value t gmo e) v
meets t (ends x v) gmo = eqb (end_value t gmo x) v
meets t (negated c) gmo = not (meets t c gmo)
meets t (both l r) gmo = meets t l gmo && meets t r gmo
meets t (either l r) gmo = meets t l gmo || meets t r gmo

-- 23: "the condition names an event that doesn't read or a location not in the test"
unfoldable pub names_unknown : Table → Condition → Bool
names_unknown t (returning e v) = not (ltb e t.count && reads t e)
names_unknown t (ends x v) = leb t.locations x
names_unknown t (negated c) = names_unknown t c
names_unknown t (both l r) = names_unknown t l || names_unknown t r
names_unknown t (either l r) = names_unknown t l || names_unknown t r

-- 21: "a location named by `x` counts as stated": the condition names x
unfoldable pub names_location : Condition → ℕ → Bool
names_location (returning e v) x = false
names_location (ends y v) x = eqb y x
names_location (negated c) x = names_location c x
names_location (both l r) x = names_location l x || names_location r x
names_location (either l r) x = names_location l x || names_location r x
