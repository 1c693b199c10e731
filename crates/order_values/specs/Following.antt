-- The values that follow from an order, told by the facts of a table.
use Rattle.std.specs.Prelude.{ℕ, ◌<◌, ◌≡◌, true, List, get_or, take}
use Rattle.table.specs.declared.Table.{Table}
use Rattle.table.specs.Events.{location, reads, writes}
use Rattle.model.specs.Following.{leaves, returned_value, end_value}
use Rattle.model.specs.Witness.{is_order}
use Rattle.model.specs.Prefixes.{clean}
use Rattle.fact_rows.specs.FactRows.{Facts}
use Rattle.fact_rows.specs.ValueRows.{Values}

-- left has what each write leaves
abbrev pub LeftOf : Table → List ℕ → List ℕ → Type 0
LeftOf t gmo left = (w : ℕ) → w < t.count → writes t w ≡ true → get_or left w 0 ≡ leaves t gmo (location t w) w

-- the same of each table that has these facts, and of which gmo is a clean order
abbrev pub Leaves : List (List ℕ) → List ℕ → List ℕ → Type 0
Leaves facts gmo left =
    (t : Table) → Facts t facts → Values t facts → is_order t gmo ≡ true → clean t gmo ≡ true → LeftOf t gmo left

-- in each clean order that begins with the first d entries of gmo
abbrev pub Alike : Table → List ℕ → ℕ → (List ℕ → Type 0) → Type 0
Alike t gmo d claim =
    (other : List ℕ) → is_order t other ≡ true → clean t other ≡ true → take d other ≡ take d gmo → claim other

-- r is the value that reader e returns, and the first d entries decide that
abbrev pub ReadsBy : List (List ℕ) → List ℕ → List ℕ → ℕ → ℕ → ℕ → Type 0
ReadsBy facts left gmo e d r =
    (t : Table) → Facts t facts → Values t facts → is_order t gmo ≡ true → clean t gmo ≡ true → LeftOf t gmo left →
    e < t.count → reads t e ≡ true → Alike t gmo d (λ other. r ≡ returned_value t other e)

-- r is the value of location x at the end, and the first d entries decide that
abbrev pub EndsBy : List (List ℕ) → List ℕ → List ℕ → ℕ → ℕ → ℕ → Type 0
EndsBy facts left gmo x d r =
    (t : Table) → Facts t facts → Values t facts → is_order t gmo ≡ true → clean t gmo ≡ true → LeftOf t gmo left →
    x < t.locations → Alike t gmo d (λ other. r ≡ end_value t other x)
