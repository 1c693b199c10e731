-- What a verdict says of a candidate (rf, gmo), whatever way it was found: what it names is broken, all that stands before it in
-- the verdict order holds, and it is the lowest.
use Rattle.std.specs.Prelude.{ℕ, ◌<◌, ◌≡◌, true, false, List, ◌⊎◌}
use Rattle.lists.specs.Below.{IsLowest}
use Rattle.table.specs.declared.Table.{Table}
use Rattle.model.specs.Rules.{from, rule_set}
use Rattle.model.specs.Axioms.{breaks_ppo, breaks_load_value, write_is_late, intrudes, breaks_pair, breaks_atomicity, breaks_value_read, breaks_final_value}
use Rattle.model.specs.Axioms.{preserved_order, load_value, atomicity, values_read, final_values}
use Rattle.model.specs.Verdict.{Verdict, allowed, broken_ppo, broken_load_value, broken_atomicity, broken_value_read, broken_final_value}

module _ (t : Table) (rf gmo : List ℕ) where
  -- "preserved order (the lowest a, and for that a the lowest b, ..)": a before b is broken, no pair with a lower a is, and for
  -- this a no lower b
  abbrev pub LowestPair : ℕ → ℕ → Type 0
  LowestPair a b =
      (a < t.count) × IsLowest t.count (breaks_ppo t rf gmo a) b
      × ((c d : ℕ) → c < a → d < t.count → breaks_ppo t rf gmo c d ≡ false)

  -- "the lowest foreign writer between; if the write itself fails to precede, that write", of the LR l and its SC s
  abbrev pub NamesWriter : ℕ → ℕ → ℕ → Type 0
  NamesWriter l s w =
      ((write_is_late rf gmo l s ≡ true) × (w ≡ from rf l))
      ⊎ ((write_is_late rf gmo l s ≡ false) × IsLowest t.count (intrudes t rf gmo l s) w)

  -- "atomicity (lowest LR, then ..)"
  abbrev pub LowestAtomicity : ℕ → ℕ → Type 0
  LowestAtomicity l w =
      IsLowest t.count (breaks_atomicity t rf gmo) l
      × ((s : ℕ) × IsLowest t.count (breaks_pair t rf gmo l) s × NamesWriter l s w)

  -- the axioms of the verdict order, the first one, the first two, ..
  abbrev pub OrderHolds : Type 0
  OrderHolds = preserved_order t rf gmo ≡ true

  abbrev pub LoadsHold : Type 0
  LoadsHold = OrderHolds × (load_value t rf gmo ≡ true)

  abbrev pub AxiomsHold : Type 0
  AxiomsHold = LoadsHold × (atomicity t rf gmo ≡ true)

  abbrev pub ReadsHold : Type 0
  ReadsHold = AxiomsHold × (values_read t rf ≡ true)

  abbrev pub AllHold : Type 0
  AllHold = ReadsHold × (final_values t gmo ≡ true)

  abbrev pub Says : Verdict → Type 0
  Says allowed = AllHold
  Says (broken_ppo a b rules) = LowestPair a b × (rules ≡ rule_set t rf a b)
  Says (broken_load_value r) = OrderHolds × IsLowest t.count (breaks_load_value t rf gmo) r
  Says (broken_atomicity l w) = LoadsHold × LowestAtomicity l w
  Says (broken_value_read r) = AxiomsHold × IsLowest t.count (breaks_value_read t rf) r
  Says (broken_final_value x) = ReadsHold × IsLowest t.locations (breaks_final_value t gmo) x
