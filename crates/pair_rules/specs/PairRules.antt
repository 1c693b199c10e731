-- "ask by itself whether a is before b, of a table and a returned list": the whole set of rules, of any list and numbers.
use Rattle.std.specs.Prelude.{Result, Ok, Err, ℕ, Bool, true, false, ◌&&◌, List, [], ◌∷◌}
use Rattle.lists.specs.Reply.{Reply, refused, answered}
use Rattle.table.specs.declared.Table.{Table}
use Rattle.table.specs.Events.{po}
use Rattle.refusals.specs.Lines.{Refused, Line, whole}
use Rattle.refusals.specs.declared.Refusal.{Refusal}
use Rattle.refusals.specs.Refusals.{refusal_of}
use Rattle.model.specs.Rules.{rule_set}
use Rattle.model.specs.Witness.{is_memory_event}
use Rattle.rule_sets.specs.RuleMask.{rules_in}
use Rattle.candidate.specs.CandidateLines.{returned_length_wrong, returned_wrong}

-- "(refused as for a candidate)": 12 of the list, 14
unfoldable pub returned_lines : Table → List ℕ → List Line
returned_lines t rf = whole 12 (returned_length_wrong t rf) ∷ whole 14 (returned_wrong t rf) ∷ []

abbrev pub only_if : Bool → List ℕ → List ℕ
only_if true rs = rs
only_if false rs = []

-- "the whole set of rules that hold .. (empty unless both are memory events of the test and a is earlier on the same hart)"
unfoldable pub rules_between : Table → List ℕ → ℕ → ℕ → List ℕ
rules_between t rf a b = only_if (is_memory_event t a && is_memory_event t b && po t a b) (rule_set t rf a b)

-- the code's answer in these words
abbrev pub ruled_by : Result ℕ Refusal → Reply Refused (List ℕ)
ruled_by (Ok set) = answered (rules_in set)
ruled_by (Err r) = refused (refusal_of r)
