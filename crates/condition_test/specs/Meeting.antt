-- What the test of an order by words tells of every table that has these facts.
use Rattle.std.specs.Prelude.{ℕ, ◌≡◌, Bool, true, cond, not, ◌&&◌, ◌||◌, List, eqb, ltb, leb}
use Rattle.table.specs.declared.Table.{Table}
use Rattle.table.specs.Events.{reads}
use Rattle.condition_reader.specs.Words.{returns_node, ends_node}
use Rattle.model.specs.Following.{returned_value, end_value}
use Rattle.model.specs.Witness.{is_order}
use Rattle.model.specs.Prefixes.{clean}
use Rattle.fact_rows.specs.FactRows.{Facts}
use Rattle.fact_rows.specs.ValueRows.{Values}
use Rattle.order_values.specs.Following.{LeftOf, Alike}
use Rattle.condition_test.specs.Machine.{kind_of, number_of, value_of, bit_behind}

-- an atom holds
unfoldable pub atom_holds : Table → List ℕ → ℕ → Bool
atom_holds t gmo w =
    cond (eqb (kind_of w) returns_node) (eqb (returned_value t gmo (number_of w)) (value_of w))
    (eqb (end_value t gmo (number_of w)) (value_of w))

-- an atom names an event that reads, or a location of the test
unfoldable pub known_atom : Table → ℕ → Bool
known_atom t w =
    cond (eqb (kind_of w) returns_node) (ltb (number_of w) t.count && reads t (number_of w)) (ltb (number_of w) t.locations)

abbrev pub known_word : Table → ℕ → Bool
known_word t w = not (leb (kind_of w) ends_node) || known_atom t w

-- r is the truth of the atom w, where left has what each write leaves, and the first d entries decide it
abbrev pub HoldsBy : List (List ℕ) → List ℕ → List ℕ → ℕ → ℕ → Bool → Type 0
HoldsBy facts left gmo w d r =
    (t : Table) → Facts t facts → Values t facts → is_order t gmo ≡ true → clean t gmo ≡ true → LeftOf t gmo left →
    known_atom t w ≡ true → Alike t gmo d (λ other. r ≡ atom_holds t other w)

-- r is the bit behind the word w, and the first d entries decide it
abbrev pub TurnsBy : List (List ℕ) → List ℕ → List ℕ → Bool → ℕ → ℕ → Bool → Type 0
TurnsBy facts left gmo now w d r =
    (t : Table) → Facts t facts → Values t facts → is_order t gmo ≡ true → clean t gmo ≡ true → LeftOf t gmo left →
    known_word t w ≡ true → Alike t gmo d (λ other. r ≡ bit_behind (atom_holds t other) now w)
