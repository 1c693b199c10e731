-- The reply to a step, of a table that was read.
use Rattle.std.specs.Prelude.{Result, Ok, Err, ℕ, ◌≡◌, List, [], ◌∷◌}
use Rattle.lists.specs.Reply.{Reply, refused, answered}
use Rattle.table.specs.declared.Table.{Table}
use Rattle.table.specs.Annotations.{rvtso}
use Rattle.refusals.specs.Lines.{Refused, Line, whole, first_line, reply_unless}
use Rattle.refusals.specs.declared.Refusal.{Refusal}
use Rattle.refusals.specs.Refusals.{refusal_of}
use Rattle.machine.specs.Machine.{event_of, entry_of, line24}
use Rattle.machine.specs.Statements.{state}
use Rattle.machine.proofs.TsoLaws.{TsoTable}
use Rattle.steps.specs.declared.StepTaken.{StepTaken}

-- what an accepted step answers: "its event and what a returned list holds for that event"
pub record StepAnswer : Type 0 where
  pub event : ℕ
  pub entry : ℕ

unfoldable pub answer_to : Table → List ℕ → ℕ → StepAnswer
answer_to t bs b = record { event = event_of t (state t bs) b; entry = entry_of t (state t bs) b }

-- its line: 24
unfoldable pub step_lines : Table → List ℕ → ℕ → List Line
step_lines t bs b = whole 24 (line24 t bs b) ∷ []

unfoldable pub step_reply : Table → List ℕ → ℕ → Reply Refused StepAnswer
step_reply t bs b = reply_unless (first_line t.count (step_lines t bs b)) (answer_to t bs b)

-- the code's reply in these words
abbrev pub stepped_by : Result StepTaken Refusal → Reply Refused StepAnswer
stepped_by (Ok s) = answered (record { event = s.event; entry = s.entry })
stepped_by (Err r) = refused (refusal_of r)

-- a table of model 1 is a good one
abbrev pub IfTso : Table → Type 0
IfTso t = t.model ≡ rvtso → TsoTable t
