-- What the functions read off the facts, of any facts.
use Rattle.std.specs.Prelude.{ℕ, ◌/◌, ◌%◌, cond, List, get_or, eqb}
use Rattle.lists.specs.Lists.{last_or}
use Rattle.masks.specs.Bit.{bit}
use Rattle.operation.specs.Operation.{no_operation, applied}
use Rattle.table.specs.Events.{capacity}
use Rattle.model.specs.Rules.{initially}
use Rattle.fact_rows.specs.FactRows.{mask}
use Rattle.fact_rows.specs.ValueRows.{place_row, written_row, action_row, writer_row, initial_row}

-- what the write w leaves, where left has what each event leaves, and the initial write leaves d
abbrev pub left_or : List ℕ → ℕ → ℕ → ℕ
left_or left d w = cond (eqb w initially) d (get_or left w 0)

-- what the last writer to location x leaves
unfoldable pub last_left : List (List ℕ) → List ℕ → List ℕ → ℕ → ℕ
last_left facts left gmo x = left_or left (mask facts initial_row x) (last_or (bit (mask facts writer_row x)) initially gmo)

-- the location of event e, with room in a row
abbrev pub place_of : List (List ℕ) → ℕ → ℕ
place_of facts e = mask facts place_row e % capacity

-- what an AMO writes, with its operation and operand as they stand in the facts
unfoldable pub written_by : (action value : ℕ) → ℕ
written_by action value = applied (action % 256) (value % 65536) (action / 256 % 256)

-- what event e leaves behind the entries of p
unfoldable pub left_by : List (List ℕ) → List ℕ → List ℕ → ℕ → ℕ
left_by facts left p e =
    cond (eqb (mask facts action_row e % 256) no_operation) (mask facts written_row e)
    (written_by (mask facts action_row e) (last_left facts left p (place_of facts e)))
