-- "Tests as text": what a text says, how it is written, and when it is legal.
use Rattle.std.specs.Prelude.{ℕ, ◌≡◌, Bool, true, false, ◌&&◌, List, [], ◌∷◌, ◌++◌, length, leb}
use Rattle.lists.specs.Lists.{all}
use Rattle.text_format.specs.Bytes.{newline, space}
use Rattle.text_format.specs.Condition.{Condition, levels, max_value, fits, decimal, printed}

-- "A text of up to 2,048 bytes (longer is refusal 1)"
abbrev pub max_text : ℕ
max_text = 2048

-- "one event a line (its record fields ..), .. one or more initial values .., from location 0 up, .. then a condition"
pub record Document : Type 0 where
  pub events : List (List ℕ)
  pub initial : List ℕ
  pub outcome : Condition

-- "its record fields, .. in record order", each with the largest number of its edition 2 field: kind, hart, location, flags;
-- three masks; value read, value written; operation, operand
abbrev pub field_bounds : List ℕ
field_bounds = 255 ∷ 255 ∷ 255 ∷ 255 ∷ 4294967295 ∷ 4294967295 ∷ 4294967295 ∷ 65535 ∷ 65535 ∷ 255 ∷ 255 ∷ []

-- "in decimal, single spaces"; "Each line ends in one newline byte."
unfoldable pub line_of : List ℕ → List ℕ
line_of [] = newline ∷ []
line_of (v ∷ []) = decimal v ++ (newline ∷ [])
line_of (v ∷ w ∷ vs) = decimal v ++ (space ∷ line_of (w ∷ vs))

unfoldable pub lines_of : List (List ℕ) → List ℕ
lines_of [] = []
lines_of (l ∷ ls) = line_of l ++ lines_of ls

-- "one event a line .., a blank line, one or more initial values on one line .., then a condition"
unfoldable pub print : Document → List ℕ
print d = lines_of d.events ++ (newline ∷ []) ++ line_of d.initial ++ printed d.outcome ++ (newline ∷ [])

-- as many numbers as bounds, each within its own
unfoldable pub within : List ℕ → List ℕ → Bool
within [] [] = true
within [] (v ∷ vs) = false
within (m ∷ ms) [] = false
within (m ∷ ms) (v ∷ vs) = leb v m && within ms vs

-- "Numbers .. fit their edition 2 field"; "one or more initial values"; the condition nests up to `most` deep
unfoldable pub well_formed : (most : ℕ) → Document → Bool
well_formed most d =
    all (within field_bounds) d.events
    && (leb 1 (length d.initial) && all (λ v. leb v max_value) d.initial)
    && (fits d.outcome && leb (levels d.outcome) most)

-- a legal text, if `most` levels are allowed
abbrev pub Legal : (most : ℕ) → List ℕ → Type 0
Legal most s = (d : Document) × (well_formed most d ≡ true) × (s ≡ print d)

-- some legal text begins with these bytes ("length aside")
abbrev pub Begins : (most : ℕ) → List ℕ → Type 0
Begins most p = (rest : List ℕ) × Legal most (p ++ rest)
