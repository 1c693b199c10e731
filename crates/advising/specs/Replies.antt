-- The reply to a call for advice, of a table that was read.
use Rattle.std.specs.Prelude.{ℕ, Bool, true, false, List, [], ◌∷◌, ltb, Result, Ok, Err}
use Rattle.lists.specs.Reply.{Reply, refused, answered}
use Rattle.table.specs.declared.Table.{Table}
use Rattle.refusals.specs.declared.Refusal.{Refusal}
use Rattle.refusals.specs.Lines.{Refused, Line, whole, first_line, reply_unless}
use Rattle.refusals.specs.Refusals.{refusal_of}
use Rattle.search.specs.Replies.{max_allowance}
use Rattle.advice.specs.Advice.{line22, Advice, advised, undecided, fences_dont_help, advice}
use Rattle.advising.specs.declared.Advice as code
use Rattle.advising.specs.declared.Advice.TheVariants.{Advised, Undecided, NoHelp}
use Rattle.advising.specs.Chosen.{events_in}

-- its lines: "22, after the table's own checks and before 17"
unfoldable pub advice_lines : Table → ℕ → List Line
advice_lines t b = whole 22 (line22 t) ∷ whole 17 (ltb max_allowance b) ∷ []

unfoldable pub table_advice : Table → ℕ → Reply Refused Advice
table_advice t b = reply_unless (first_line t.count (advice_lines t b)) (advice t b)

-- the code's reply in these words; "the set as the mask of its events"
abbrev pub advice_of : Result code.Advice Refusal → Reply Refused Advice
advice_of (Err r) = refused (refusal_of r)
advice_of (Ok (Advised m)) = answered (advised (events_in m))
advice_of (Ok (Undecided m)) = answered (undecided (events_in m))
advice_of (Ok NoHelp) = answered fences_dont_help

-- nothing further is tried: only of fences that don't help it is
abbrev pub decides : Reply Refused Advice → Bool
decides (refused r) = true
decides (answered (advised s)) = true
decides (answered (undecided s)) = true
decides (answered fences_dont_help) = false
