-- The lines of a candidate of a table: 12 to 14, and 16.
use Rattle.std.specs.Prelude.{ℕ, ◌||◌, List, [], ◌∷◌}
use Rattle.table.specs.declared.Table.{Table}
use Rattle.refusals.specs.Lines.{Line, whole}
use Rattle.candidate.specs.CandidateLines.{order_length_wrong, returned_length_wrong, order_wrong, returned_wrong, returns_too_short}

-- the lines of a candidate: 12, 13, 14
unfoldable pub candidate_lines : Table → List ℕ → List ℕ → List Line
candidate_lines t rf gmo =
    whole 12 (order_length_wrong t gmo || returned_length_wrong t rf) ∷ whole 13 (order_wrong t gmo) ∷ whole 14 (returned_wrong t rf) ∷ []

-- the lines of an order whose returned list is asked for: 12, 13, 16
unfoldable pub order_lines : Table → List ℕ → List ℕ → List Line
order_lines t gmo out =
    whole 12 (order_length_wrong t gmo) ∷ whole 13 (order_wrong t gmo) ∷ whole 16 (returns_too_short t out) ∷ []
