-- The vocabulary of the theorems on the second engine's list.
use Rattle.std.specs.Prelude.{ℕ, ◌≡◌, true, false, List, [], ◌++◌, ◌↔◌, ◌≢◌}
use Rattle.lists.specs.Reply.{Reply}
use Rattle.lists.specs.Lists.{◌∈◌, keep}
use Rattle.lists.specs.Ascending.{Ascending}
use Rattle.table.specs.declared.Table.{Table}
use Rattle.prefixes.specs.Answer.{Answer}
use Rattle.prefixes.specs.Walk.{handed, finished}
use Rattle.model.specs.Witness.{witness}
use Rattle.model.specs.Prefixes.{clean, clean_prefixes}
use Rattle.model.specs.Settled.{spoiled, unpruned, unpruned_prefixes}

-- "those clean prefixes none of whose proper prefixes is spoiled": p is one, said without tests
pub record Unpruned (t : Table) (p : List ℕ) : Type 0 where
  pub is-clean : clean t p ≡ true
  pub unspoiled : (a b : List ℕ) → p ≡ a ++ b → b ≢ [] → spoiled t a ≡ false

-- the second list is what the request says, beside the first one
pub record SecondList (t : Table) : Type 0 where
  -- "The second engine visits only those": listed are the nonempty ones
  pub exactly : (p : List ℕ) → (p ∈ unpruned_prefixes t) ↔ ((p ≢ []) × Unpruned t p)
  -- in ascending order, and so each once
  pub ascending : Ascending (unpruned_prefixes t)
  -- it is part of the first list
  pub part : unpruned_prefixes t ≡ keep (unpruned t) (clean_prefixes t)
  -- and has the same witnesses, in the same order
  pub witnesses : keep (witness t) (unpruned_prefixes t) ≡ keep (witness t) (clean_prefixes t)

-- "Walked from the beginning until none are left, both engines hand out the same witnesses in the same order": two lists of
-- calls, refused ones included, each with the replies of its engine
module _ {R C S D : Type 0} (first : List ℕ → C → Reply R Answer) (second : List ℕ → D → Reply S Answer) where
  abbrev pub SameHandedOut : Type 0
  SameHandedOut =
      (cs : List C) (ds : List D) → finished first [] cs ≡ true → finished second [] ds ≡ true →
      handed second [] ds ≡ handed first [] cs
