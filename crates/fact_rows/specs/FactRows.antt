-- The facts of a table as an array of rows: a mask for each event in all but the last of these.
use Rattle.std.specs.Prelude.{ℕ, ◌≡◌, Bool, List, [], get_or}
use Rattle.lists.specs.Below.{below}
use Rattle.lists.specs.Lists.{keep}
use Rattle.lists.specs.Filled.{padded}
use Rattle.masks.specs.MaskOf.{mask_of}
use Rattle.table.specs.declared.Table.{Table}
use Rattle.table.specs.Events.{capacity}
use Rattle.model.specs.Returns.{initial_value}
use Rattle.placing.specs.GoodTable.{GoodTable}
use Rattle.order_facts.specs.Facts.{mask_by, own_writer, needed, opens, grounds, guards, here, right, good, peers, wrong, unmet}

-- row k
abbrev pub row : List (List ℕ) → ℕ → List ℕ
row facts k = get_or facts k []

-- the mask of event e in row k
abbrev pub mask : List (List ℕ) → ℕ → ℕ → ℕ
mask facts k e = get_or (row facts k) e 0

-- the rows
abbrev pub own_row : ℕ
own_row = 0

abbrev pub needs_row : ℕ
needs_row = 1

abbrev pub window_row : ℕ
window_row = 2

abbrev pub ground_row : ℕ
ground_row = 3

abbrev pub guard_row : ℕ
guard_row = 4

abbrev pub here_row : ℕ
here_row = 5

abbrev pub right_row : ℕ
right_row = 6

abbrev pub peer_row : ℕ
peer_row = 7

abbrev pub set_row : ℕ
set_row = 8

-- the words of the last of them
abbrev pub good_word : ℕ
good_word = 0

abbrev pub wrong_word : ℕ
wrong_word = 1

abbrev pub unmet_word : ℕ
unmet_word = 2

-- for each event the mask of those that pass
abbrev pub masks_by : Table → (ℕ → ℕ → Bool) → List ℕ
masks_by t f = padded capacity t.count (λ e. mask_by t (f e))

-- the rows are those of a good table
pub record Facts (t : Table) (facts : List (List ℕ)) : Type 0 where
  pub table : GoodTable t
  pub own : row facts own_row ≡ masks_by t (own_writer t)
  pub needs : row facts needs_row ≡ masks_by t (needed t)
  pub windows : row facts window_row ≡ masks_by t (opens t)
  pub grounds : row facts ground_row ≡ masks_by t (grounds t)
  pub guards : row facts guard_row ≡ masks_by t (guards t)
  pub here : row facts here_row ≡ masks_by t (here t)
  pub right : row facts right_row ≡ masks_by t (right t)
  pub peers : row facts peer_row ≡ masks_by t (peers t)
  -- in the last row: the good at the start, the writers of wrong final values, and the locations that aren't met
  pub good : mask facts set_row good_word ≡ mask_by t (good t (initial_value t))
  pub wrong : mask facts set_row wrong_word ≡ mask_by t (wrong t)
  pub unmet : mask facts set_row unmet_word ≡ mask_of (keep (unmet t) (below t.locations))
