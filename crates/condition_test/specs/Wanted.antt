-- What is looked for in an order.
use Rattle.std.specs.Prelude.{ℕ, ◌≡◌, Bool, true, false, List, [], ◌∷◌, ◌⊎◌}
use Rattle.table.specs.declared.Table.{Table}
use Rattle.text_format.specs.Condition.{Condition, fits}
use Rattle.condition_reader.specs.Words.{code}
use Rattle.model.specs.Following.{meets, names_unknown}
use Rattle.model.specs.Witness.{is_order, witness_for, stated_outcome}
use Rattle.model.specs.Prefixes.{clean}
use Rattle.fact_rows.specs.FactRows.{Facts}
use Rattle.fact_rows.specs.ValueRows.{Values}
use Rattle.condition_test.specs.Kept.{Keeps}

-- the outcome is a condition, which the words are
pub record Conditioned (t : Table) (facts : List (List ℕ)) (words : List ℕ) (outcome : List ℕ → Bool) : Type 0 where
  pub condition : Condition
  pub coded : words ≡ code condition
  pub asked : outcome ≡ meets t condition
  pub fitting : fits condition ≡ true
  pub known : names_unknown t condition ≡ false
  pub values : Values t facts

-- the one word that says that any order will do, of a kind that no word of a condition has
abbrev pub any_node : ℕ
any_node = 5

abbrev pub any_words : List ℕ
any_words = any_node ∷ []

-- any order will do
abbrev pub any_order : List ℕ → Bool
any_order gmo = true

-- without words the outcome that the table states, else the condition of the words, or any order
abbrev pub Wants : Table → List (List ℕ) → List ℕ → (List ℕ → Bool) → Type 0
Wants t facts [] outcome = outcome ≡ stated_outcome t
Wants t facts (w ∷ ws) outcome =
    Conditioned t facts (w ∷ ws) outcome ⊎ ((◌≡◌ {A = List ℕ} (w ∷ ws) any_words) × (outcome ≡ any_order))

-- r tells whether the clean order gmo is a witness of what is looked for, if kept was told of the order seen; after is told of next
abbrev pub Witnesses : List (List ℕ) → (words gmo seen kept : List ℕ) → Bool → (next after : List ℕ) → Type 0
Witnesses facts words gmo seen kept r next after =
    (t : Table) (outcome : List ℕ → Bool) → Facts t facts → Wants t facts words outcome → is_order t gmo ≡ true →
    clean t gmo ≡ true → Keeps t words seen kept → (r ≡ witness_for t outcome gmo) × Keeps t words next after
