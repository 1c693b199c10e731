-- "Exactly the lowest number whose line holds is given, or else none; within 7 to 10, its lowest record is named."
use Rattle.std.specs.Prelude.{ℕ, ◌≡◌, Bool, true, false, List, ◌∷◌, ◌++◌}
use Rattle.lists.specs.Below.{some, IsLowest}
use Rattle.lists.specs.Lists.{◌∈◌}
use Rattle.refusals.specs.Lines.{Refused, accepted, by_line, by_record, by_place, Line, whole, record_of, place-of}

-- the line holds, of n records
abbrev pub holds : ℕ → Line → Bool
holds n (whole k b) = b
holds n (record_of k f) = some n f
holds n (place-of k p b) = b

-- none of the lines holds
abbrev pub NoneHolds : ℕ → List Line → Type 0
NoneHolds n ls = (l : Line) → l ∈ ls → holds n l ≡ false

-- the refusal is that of a line which holds, at its lowest record or its place, and no line before it holds; or none holds. The
-- lines stand in the paper's order.
abbrev pub Exactly : ℕ → List Line → Refused → Type 0
Exactly n ls accepted = NoneHolds n ls
Exactly n ls (by_line k) = (before : List Line) × (later : List Line) × (ls ≡ before ++ (whole k true ∷ later)) × NoneHolds n before
Exactly n ls (by_record k i) =
    (before : List Line) × (later : List Line) × (f : ℕ → Bool) × (ls ≡ before ++ (record_of k f ∷ later)) × NoneHolds n before
    × IsLowest n f i
Exactly n ls (by_place k p) =
    (before : List Line) × (later : List Line) × (ls ≡ before ++ (place-of k p true ∷ later)) × NoneHolds n before
