-- Words for the steps of the work, in which the bytes stand in rows of equal length, and a lane is a place in a row. What the
-- check is, Checksum says alone.
use Rattle.std.specs.Prelude.{ℕ, ◌+◌, List, [], ◌∷◌}

-- how many lanes a row has
abbrev pub lanes : ℕ
lanes = 4

-- the largest u32
abbrev pub largest : ℕ
largest = 4294967295

-- two rows, added lane by lane
unfoldable pub added : List ℕ → List ℕ → List ℕ
added [] [] = []
added [] (y ∷ b) = []
added (x ∷ a) [] = []
added (x ∷ a) (y ∷ b) = (x + y) ∷ added a b

-- the sum of all lanes
unfoldable pub plain : List ℕ → ℕ
plain [] = 0
plain (x ∷ a) = x + plain a
