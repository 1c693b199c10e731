-- A search call on a table: refusals 15, 16 and 17, the reply, and what it leaves in the answer buffer.
use Rattle.std.specs.Prelude.{ℕ, Bool, List, [], ◌∷◌, length, ltb, Result, Ok, Err}
use Rattle.lists.specs.Reply.{Reply, refused, answered}
use Rattle.table.specs.declared.Table.{Table}
use Rattle.refusals.specs.declared.Refusal.{Refusal}
use Rattle.refusals.specs.Lines.{Refused, Line, whole, first_line, reply_unless}
use Rattle.refusals.specs.Refusals.{refusal_of}
use Rattle.prefixes.specs.Answer.{Answer, found, none_left, spent}
use Rattle.model.specs.Prefixes.{search_by}
use Rattle.candidate.specs.CandidateLines.{start_wrong, order_too_short}
use Rattle.candidate.specs.Buffers.{written}
use Rattle.witness_walk.specs.declared.Ending.{Ending}
use Rattle.witness_walk.specs.declared.Ending.TheVariants.{Found, NoneLeft, Spent}
use Rattle.witness_walk.specs.Ending.{answer_of}

-- "allowance above 1,000,000,000"
abbrev pub max_allowance : ℕ
max_allowance = 1000000000

-- the lines of a start, an answer buffer and an allowance: 15, 16, 17; passes: the test of the prefixes that are listed
unfoldable pub start_lines : Table → (passes : List ℕ → Bool) → List ℕ → List ℕ → ℕ → List Line
start_lines t passes start out b =
    whole 15 (start_wrong passes start) ∷ whole 16 (order_too_short t out) ∷ whole 17 (ltb max_allowance b) ∷ []

-- what a search call on a table is given back
unfoldable pub table_reply : Table → (passes outcome : List ℕ → Bool) → List ℕ → List ℕ → ℕ → Reply Refused Answer
table_reply t passes outcome start out b =
    reply_unless (first_line t.count (start_lines t passes start out b)) (search_by t passes outcome start b)

-- "Found writes the order; spent writes the last prefix visited ..; bytes past it stay; none left writes nothing." "No
-- refusal alters any buffer."
abbrev pub buffer_after : Reply Refused Answer → List ℕ → List ℕ
buffer_after (refused r) out = out
buffer_after (answered (found p v)) out = written p out
buffer_after (answered (none_left v)) out = out
buffer_after (answered (spent p v)) out = written p out

-- the code's reply in the paper's words; a prefix stands at the front of the buffer
abbrev pub reply_of : Result Ending Refusal → List ℕ → Reply Refused Answer
reply_of (Err r) out = refused (refusal_of r)
reply_of (Ok o) out = answered (answer_of o out)

-- the length of the prefix that a reply hands out, which "is part of the answer"; 0 where none is
abbrev pub prefix_length : Reply Refused Answer → ℕ
prefix_length (refused r) = 0
prefix_length (answered (found p v)) = length p
prefix_length (answered (none_left v)) = 0
prefix_length (answered (spent p v)) = length p

-- the length that the code's reply says
abbrev pub length_of : Result Ending Refusal → ℕ
length_of (Err r) = 0
length_of (Ok (Found len v)) = len
length_of (Ok (NoneLeft v)) = 0
length_of (Ok (Spent len v)) = len
