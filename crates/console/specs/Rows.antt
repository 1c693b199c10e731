-- A text as a table: a row is a line, ended by a newline.
use Rattle.std.specs.Prelude.{ℕ, zero, suc, cond, List, [], ◌∷◌, take, drop, eqb}

abbrev pub newline : ℕ
newline = 10

-- How many bytes stand before the first newline.
unfoldable pub row_length : List ℕ → ℕ
row_length [] = 0
row_length (b ∷ bs) = cond (eqb b newline) 0 (suc (row_length bs))

abbrev pub first_row : List ℕ → List ℕ
first_row text = take (row_length text) text

-- What stands past the first newline.
abbrev pub later_rows : List ℕ → List ℕ
later_rows text = drop (suc (row_length text)) text

-- Row k, counted from 0.
unfoldable pub row : List ℕ → ℕ → List ℕ
row text zero = first_row text
row text (suc k) = row (later_rows text) k
