-- What the tests tell of every table that has these facts.
use Rattle.std.specs.Prelude.{ℕ, ◌≤◌, ◌<◌, ◌≡◌, Bool, true, cond, not, ◌&&◌, List, length, take, eqb, ltb}
use Rattle.std.specs.Int.Bits.{bit_and}
use Rattle.lists.specs.Lists.{all}
use Rattle.masks.specs.Bit.{bit}
use Rattle.table.specs.declared.Table.{Table}
use Rattle.table.specs.Events.{capacity, reads}
use Rattle.model.specs.Witness.{is_order}
use Rattle.model.specs.Prefixes.{clean}
use Rattle.order_facts.specs.Facts.{mask_by, good, reads_good}
use Rattle.fact_rows.specs.FactRows.{mask, Facts, ground_row, window_row}

-- r is the test of event e
abbrev pub Tells : List (List ℕ) → ℕ → (Table → Bool) → Bool → Type 0
Tells facts e test r = (t : Table) → Facts t facts → e < t.count → r ≡ test t

-- if e reads, it returns its stated value, by the mask of the good; else its own bit there
abbrev pub returns_good : Table → ℕ → ℕ → ℕ → Bool
returns_good t placed now e = cond (reads t e) (reads_good t (bit placed) (bit now) e) (bit now e)

-- the same by what is at each location, where now is the mask of the good
abbrev pub TellsGood : List (List ℕ) → ℕ → ℕ → (Table → (ℕ → ℕ) → Bool) → Bool → Type 0
TellsGood facts now e test r =
    (t : Table) → Facts t facts → e < t.count → (value : ℕ → ℕ) → now ≡ mask_by t (good t value) → r ≡ test t value

-- r is the test of the clean order gmo
abbrev pub Judges : List (List ℕ) → List ℕ → (Table → List ℕ → Bool) → Bool → Type 0
Judges facts gmo test r = (t : Table) → Facts t facts → is_order t gmo ≡ true → clean t gmo ≡ true → r ≡ test t gmo

-- the first len entries have room in a mask
pub record Fitting (order : List ℕ) (len : ℕ) : Type 0 where
  pub long : length order ≡ capacity
  pub within : len ≤ capacity
  pub fitting : all (λ e. ltb e capacity) (take len order) ≡ true

-- v's window is open, by the facts
unfoldable pub open_by : List (List ℕ) → ℕ → ℕ → Bool
open_by facts placed v =
    not (eqb (bit_and (mask facts window_row v) placed) 0)
    && eqb (bit_and (mask facts ground_row v) placed) (mask facts ground_row v)
