-- The entry for a decision, of any bytes, start and buffer: refusals 1 to 11, 21 and 16, and the least witness that is greater than
-- the start, or none; no allowance, and no case "undecided"; and many such calls, one after the other.
use Rattle.std.specs.Prelude.{ℕ, ◌≡◌, Bool, List, [], ◌∷◌, ◌++◌}
use Rattle.std.proofs.Math.Option.{Option, none, some}
use Rattle.lists.specs.Reply.{Reply, refused, answered}
use Rattle.decode.specs.Decoded.{decoded}
use Rattle.refusals.specs.Lines.{Refused, Line, first_line, reply_unless}
use Rattle.block.specs.Reading.{reading_lines}
use Rattle.prefixes.specs.Answer.{Answer, found, none_left}
use Rattle.prefixes.specs.Walk.{start_after, reached, handed, finished}
use Rattle.states.specs.Decisions.{next_witness}
use Rattle.deciding.specs.Replies.{decision_lines, decided_buffer}

-- the lines: 1 to 11, 21, 16
unfoldable pub decide_lines : List ℕ → List ℕ → List Line
decide_lines s out = reading_lines s ++ decision_lines (decoded s) out

unfoldable pub decide_reply : List ℕ → List ℕ → List ℕ → Reply Refused (Option (List ℕ))
decide_reply s start out = reply_unless (first_line (decoded s).count (decide_lines s out)) (next_witness (decoded s) start)

unfoldable pub decide_buffer : List ℕ → List ℕ → List ℕ → List ℕ
decide_buffer s start out = decided_buffer (decide_reply s start out) out

-- a call of `bench::decide`, or of `bench::decide_with` with any memo, and any buffer; what it was answered, and the buffer then
pub record DecideCall : Type 0 where
  pub buffer : List ℕ
  pub told : Reply Refused (Option (List ℕ))
  pub after : List ℕ

-- the answer in the words of a search that visits witnesses alone, one at most: so its start, orders and end are those of a walk
abbrev pub as_search : Reply Refused (Option (List ℕ)) → Reply Refused Answer
as_search (refused r) = refused r
as_search (answered (some gmo)) = answered (found gmo 1)
as_search (answered none) = answered (none_left 0)

module _ (s : List ℕ) where
  -- what the entries ensure of a call from a start
  abbrev pub DecidePromised : List ℕ → DecideCall → Type 0
  DecidePromised start c = (c.told ≡ decide_reply s start c.buffer) × (c.after ≡ decide_buffer s start c.buffer)

  -- calls on the same bytes, refused ones included, each from the start that those before it left: the order given last
  abbrev pub DecideCalls : List ℕ → List DecideCall → Type 0
  DecideCalls start [] = Unit {0}
  DecideCalls start (c ∷ cs) = DecidePromised start c × DecideCalls (start_after start (as_search c.told)) cs

-- from the empty start
module _ (cs : List DecideCall) where
  -- the start that a further call would get
  abbrev pub next_start : List ℕ
  next_start = reached (λ start c. as_search c.told) [] cs

  -- the orders given, in the order of the calls
  abbrev pub orders_given : List (List ℕ)
  orders_given = handed (λ start c. as_search c.told) [] cs

  -- a call has said that there is no other
  abbrev pub said_no_other : Bool
  said_no_other = finished (λ start c. as_search c.told) [] cs
