-- What a decision answers. Nothing here is about states.
use Rattle.std.specs.Prelude.{ℕ, List, [], ◌∷◌}
use Rattle.std.proofs.Math.Option.{Option, none, some}
use Rattle.table.specs.declared.Table.{Table}
use Rattle.prefixes.specs.Listed.{after}
use Rattle.model.specs.Prefixes.{witnesses}

-- the first of a list of orders, if it has one
abbrev pub first : List (List ℕ) → Option (List ℕ)
first [] = none
first (p ∷ l) = some p

-- the least witness that is greater than the start, if there is one
unfoldable pub next_witness : Table → List ℕ → Option (List ℕ)
next_witness t start = first (after start (witnesses t))
