-- A decision call on a table: refusal 16, the reply, and what it leaves in the answer buffer.
use Rattle.std.specs.Prelude.{ℕ, ◌≡◌, List, [], ◌∷◌, length, take, Result, Ok, Err, Some, None, Option as Optional}
use Rattle.std.proofs.Math.Option.{Option, none, some}
use Rattle.lists.specs.Reply.{Reply, refused, answered}
use Rattle.table.specs.declared.Table.{Table}
use Rattle.refusals.specs.declared.Refusal.{Refusal}
use Rattle.refusals.specs.Lines.{Refused, Line, whole, first_line, reply_unless}
use Rattle.refusals.specs.Refusals.{refusal_of}
use Rattle.candidate.specs.CandidateLines.{order_too_short}
use Rattle.candidate.specs.Buffers.{written}
use Rattle.states.specs.Decisions.{next_witness}

-- its line: 16, as for a search
unfoldable pub decision_lines : Table → List ℕ → List Line
decision_lines t out = whole 16 (order_too_short t out) ∷ []

-- the least witness greater than the start, or none
unfoldable pub table_decision : Table → List ℕ → List ℕ → Reply Refused (Option (List ℕ))
table_decision t start out = reply_unless (first_line t.count (decision_lines t out)) (next_witness t start)

-- a witness is written to the front of the buffer, "bytes past it stay"; else it stays as it was
abbrev pub decided_buffer : Reply Refused (Option (List ℕ)) → List ℕ → List ℕ
decided_buffer (refused r) out = out
decided_buffer (answered (some p)) out = written p out
decided_buffer (answered none) out = out

-- the code's reply in these words; a witness stands at the front of the buffer
abbrev pub decision_of : Result (Optional ℕ) Refusal → List ℕ → Reply Refused (Option (List ℕ))
decision_of (Err r) out = refused (refusal_of r)
decision_of (Ok (Some len)) out = answered (some (take len out))
decision_of (Ok None) out = answered none

-- the length of the witness; 0 where there is none
abbrev pub order_length : Reply Refused (Option (List ℕ)) → ℕ
order_length (refused r) = 0
order_length (answered (some p)) = length p
order_length (answered none) = 0

-- the length that the code's reply says
abbrev pub decided_length : Result (Optional ℕ) Refusal → ℕ
decided_length (Err r) = 0
decided_length (Ok (Some len)) = len
decided_length (Ok None) = 0

-- of a lent memo nothing is promised, but that it stays as it was where the call is refused
abbrev pub MemoAfter : List ℕ → List ℕ → Result (Optional ℕ) Refusal → Type 0
MemoAfter before after (Err r) = after ≡ before
MemoAfter before after (Ok found) = Unit {0}

-- a call that gives this reply leaves this buffer, and says this length
pub record Decides (reply : Reply Refused (Option (List ℕ))) (out after : List ℕ) (r : Result (Optional ℕ) Refusal) : Type 0 where
  pub replied : decision_of r after ≡ reply
  pub buffer : after ≡ decided_buffer reply out
  pub length : decided_length r ≡ order_length reply
