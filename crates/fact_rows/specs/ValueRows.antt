-- Further rows of the facts, for texts: what the values that follow from an order are told by.
use Rattle.std.specs.Prelude.{ℕ, ◌+◌, ◌*◌, ◌^◌, ◌<◌, ◌≡◌, not, ◌&&◌, List, eqb}
use Rattle.lists.specs.Filled.{padded}
use Rattle.operation.specs.Operation.{no_operation}
use Rattle.table.specs.declared.Table.{Table}
use Rattle.table.specs.Events.{capacity, event, location, writes}
use Rattle.model.specs.Returns.{initial_value}
use Rattle.order_facts.specs.Facts.{mask_by}
use Rattle.fact_rows.specs.FactRows.{row, mask, set_row}

-- the rows
abbrev pub place_row : ℕ
place_row = 9

abbrev pub written_row : ℕ
written_row = 10

abbrev pub action_row : ℕ
action_row = 11

abbrev pub writer_row : ℕ
writer_row = 12

abbrev pub initial_row : ℕ
initial_row = 13

abbrev pub row_count : ℕ
row_count = 14

-- a word of the row of sets
abbrev pub operated_word : ℕ
operated_word = 3

-- the values, operations and operands of a table are within their types
pub record Narrow (t : Table) : Type 0 where
  pub initial : (x : ℕ) → x < t.locations → initial_value t x < 2 ^ 16
  pub written : (e : ℕ) → e < t.count → (event t e).written < 2 ^ 16
  pub operation : (e : ℕ) → e < t.count → (event t e).operation < 2 ^ 8
  pub operand : (e : ℕ) → e < t.count → (event t e).operand < 2 ^ 8

-- the rows are those of the table
pub record Values (t : Table) (facts : List (List ℕ)) : Type 0 where
  pub narrow : Narrow t
  pub places : row facts place_row ≡ padded capacity t.count (location t)
  pub written : row facts written_row ≡ padded capacity t.count (λ e. (event t e).written)
  pub actions : row facts action_row ≡ padded capacity t.count (λ e. (event t e).operation + 256 * (event t e).operand)
  -- by location
  pub writers : row facts writer_row
      ≡ padded capacity t.locations (λ x. mask_by t (λ w. writes t w && eqb (location t w) x))
  pub initial : row facts initial_row ≡ padded capacity t.locations (initial_value t)
  -- in the row of sets
  pub operated : mask facts set_row operated_word ≡ mask_by t (λ e. not (eqb (event t e).operation no_operation))
