-- What is kept of a run of a condition's words from one order to the next: the word where it goes on, the bit there, how many first
-- entries of the order decide both, and whether the words join atoms by `and` only.
use Rattle.std.specs.Prelude.{ℕ, ◌+◌, ◌≤◌, ◌≡◌, Bool, true, false, cond, List, [], ◌∷◌, get_or, take, drop, eqb, ltb}
use Rattle.lists.specs.Lists.{all}
use Rattle.table.specs.declared.Table.{Table}
use Rattle.text_format.specs.Condition.{Condition, fits}
use Rattle.condition_reader.specs.Words.{code}
use Rattle.model.specs.Following.{meets, names_unknown}
use Rattle.model.specs.Witness.{is_order}
use Rattle.model.specs.Prefixes.{clean}
use Rattle.fact_rows.specs.FactRows.{Facts}
use Rattle.fact_rows.specs.ValueRows.{Values}
use Rattle.order_values.specs.Following.{LeftOf, Alike}
use Rattle.condition_test.specs.Machine.{plain_word, run}
use Rattle.condition_test.specs.Meeting.{atom_holds}

abbrev pub next_of : List ℕ → ℕ
next_of kept = get_or kept 0 0

abbrev pub bit_of : List ℕ → Bool
bit_of kept = eqb (get_or kept 1 0) 1

abbrev pub depth_of : List ℕ → ℕ
depth_of kept = get_or kept 2 0

abbrev pub plain_of : List ℕ → ℕ
plain_of kept = get_or kept 3 0

-- a run as it is kept
abbrev pub kept_run : (next : ℕ) → (now : Bool) → (depth plain : ℕ) → List ℕ
kept_run next now depth plain = next ∷ cond now 1 0 ∷ depth ∷ plain ∷ []

-- of a table and the condition that the words are
abbrev pub OfCondition : Table → List ℕ → (Condition → Type 0) → Type 0
OfCondition t words claim =
    (c : Condition) → words ≡ code c → fits c ≡ true → names_unknown t c ≡ false → claim c

-- r is its truth
abbrev pub Truth : Table → (words gmo : List ℕ) → Bool → Type 0
Truth t words gmo r = OfCondition t words (λ c. r ≡ meets t c gmo)

-- from word i on, with the bit b, running gives its truth in each clean order that begins with the first d entries of gmo
abbrev pub RunsOn : Table → (words gmo : List ℕ) → ℕ → Bool → ℕ → Type 0
RunsOn t words gmo d b i =
    OfCondition t words (λ c. Alike t gmo d (λ other. run (atom_holds t other) 0 b (drop i words) ≡ meets t c other))

-- if it is 1, the words join atoms by `and` only
abbrev pub Plain : (words : List ℕ) → ℕ → Type 0
Plain words plain = plain ≡ 1 → all plain_word words ≡ true

abbrev pub Keeps : Table → (words gmo kept : List ℕ) → Type 0
Keeps t words gmo kept = RunsOn t words gmo (depth_of kept) (bit_of kept) (next_of kept) × Plain words (plain_of kept)

-- a run from the first word on
pub record Starts (words kept : List ℕ) : Type 0 where
  pub begun : kept ≡ kept_run 0 true 0 (plain_of kept)
  pub plain : Plain words (plain_of kept)

-- the run is kept unless nearly the whole order decides it: most orders that come next differ in their last entries
abbrev pub noted : (kept : List ℕ) → (len next : ℕ) → Bool → (depth : ℕ) → List ℕ
noted kept len next now depth = cond (ltb (depth + 1) len) (kept_run next now depth (plain_of kept)) kept

-- r is the truth in gmo, where left has what each write leaves, if it was kept what is; and after is kept then
abbrev pub GoesOn : List (List ℕ) → (left words gmo kept : List ℕ) → Bool → (after : List ℕ) → Type 0
GoesOn facts left words gmo kept r after =
    (t : Table) → Facts t facts → Values t facts → is_order t gmo ≡ true → clean t gmo ≡ true → LeftOf t gmo left →
    Keeps t words gmo kept → Truth t words gmo r × Keeps t words gmo after

-- the same, where kept was told of the order seen, and after is told of the order seen next
abbrev pub Meets : List (List ℕ) → (words gmo seen kept : List ℕ) → Bool → (next after : List ℕ) → Type 0
Meets facts words gmo seen kept r next after =
    (t : Table) → Facts t facts → Values t facts → is_order t gmo ≡ true → clean t gmo ≡ true →
    Keeps t words seen kept → Truth t words gmo r × Keeps t words next after

-- if r, the first n entries of two lists are the same, and at most len
abbrev pub Begins : (seen order : List ℕ) → (len n : ℕ) → Bool → Type 0
Begins seen order len n true = (n ≤ len) × (take n order ≡ take n seen)
Begins seen order len n false = Unit {0}

-- what was kept of the order seen, and what is kept then, of it and of gmo
abbrev pub Resumes : (seen gmo : List ℕ) → (len : ℕ) → (kept after : List ℕ) → Type 0
Resumes seen gmo len kept after =
    (depth_of after ≤ len)
    × ((t : Table) (words : List ℕ) → Keeps t words seen kept → Keeps t words seen after × Keeps t words gmo after)
