-- What is claimed of two tables of which the second is at least as strong as the first.
use Rattle.std.specs.Prelude.{ℕ, ◌≡◌, true, false, List}
use Rattle.table.specs.declared.Table.{Table}
use Rattle.table.specs.Annotations.{rvtso}
use Rattle.text_format.specs.Condition.{Condition}
use Rattle.model.specs.Returns.{returns}
use Rattle.model.specs.Witness.{lawful, witness_for, witness}
use Rattle.model.specs.Following.{returned_value, end_value, meets}
use Rattle.model.specs.Claims.{in_model}
use Rattle.stronger.specs.Stronger.{stronger}

-- the second allows no more than the first
pub record NoMore (t u : Table) : Type 0 where
  -- "Every witness of the second is then a witness of the first."
  pub witnesses : (gmo : List ℕ) → witness u gmo ≡ true → witness t gmo ≡ true
  -- so an outcome that is forbidden for the first is forbidden for the second
  pub forbidden : ((gmo : List ℕ) → witness t gmo ≡ false) → (gmo : List ℕ) → witness u gmo ≡ false
  -- every lawful order of the second is one of the first, with the same returns and the same values that follow (T-08), whatever
  -- outcome is asked for
  pub lawful-orders : (gmo : List ℕ) → lawful u gmo ≡ true → lawful t gmo ≡ true
  pub returns-same : (gmo : List ℕ) → returns u gmo ≡ returns t gmo
  pub values-read : (gmo : List ℕ) (e : ℕ) → returned_value u gmo e ≡ returned_value t gmo e
  pub end-values : (gmo : List ℕ) (x : ℕ) → end_value u gmo x ≡ end_value t gmo x
  -- so a witness of a condition too
  pub conditions : (c : Condition) (gmo : List ℕ) → witness_for u (meets u c) gmo ≡ true → witness_for t (meets t c) gmo ≡ true

-- "take two good tables that differ only in .."
abbrev pub StrongerTables : Type 0
StrongerTables = (t u : Table) → stronger t u ≡ true → NoMore t u

-- a table of either model, and the same table in model 1
abbrev pub StrongerModel : Type 0
StrongerModel = (t : Table) → NoMore t (in_model rvtso t)
