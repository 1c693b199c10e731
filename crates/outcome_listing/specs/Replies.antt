-- A call that lists outcomes of a table: refusals 12, 16 and 17, the reply, and what it leaves in the answer buffer.
use Rattle.std.specs.Prelude.{ℕ, ◌/◌, min, Bool, not, ◌&&◌, List, [], ◌∷◌, length, eqb, ltb, Result, Ok, Err}
use Rattle.lists.specs.Reply.{Reply, refused, answered}
use Rattle.sorted_rows.specs.Sorted.{rows, flat}
use Rattle.table.specs.declared.Table.{Table}
use Rattle.refusals.specs.declared.Refusal.{Refusal}
use Rattle.refusals.specs.Lines.{Refused, Line, whole, first_line, reply_unless}
use Rattle.refusals.specs.Refusals.{refusal_of}
use Rattle.candidate.specs.Buffers.{written}
use Rattle.search.specs.Replies.{max_allowance}
use Rattle.outcomes.specs.Outcomes.{outcome_length, Listing, given, none_left, spent, listing}
use Rattle.outcome_listing.specs.declared.Listing as code
use Rattle.outcome_listing.specs.declared.Listing.TheVariants.{Listed, NoneLeft, Spent}

-- one call gives so many outcomes at most, where it is asked for as many as its buffer has room for
abbrev pub most_outcomes : ℕ
most_outcomes = 64

-- 12: "a previous outcome of the wrong length": it has neither that of an outcome nor is it "the empty list for none"
unfoldable pub previous_wrong : Table → List ℕ → Bool
previous_wrong t previous = not (eqb (length previous) 0) && not (eqb (length previous) (outcome_length t))

-- 16: "a buffer with too few places"
unfoldable pub outcome_too_short : Table → List ℕ → Bool
outcome_too_short t out = ltb (length out) (outcome_length t)

-- the lines of a previous outcome, an answer buffer and an allowance: 12, 16, 17
unfoldable pub outcome_lines : Table → List ℕ → List ℕ → ℕ → List Line
outcome_lines t previous out b =
    whole 12 (previous_wrong t previous) ∷ whole 16 (outcome_too_short t out) ∷ whole 17 (ltb max_allowance b) ∷ []

-- the number of outcomes that a call gives at most, where `most` are asked for: no more than there is room for
unfoldable pub room_for : Table → ℕ → List ℕ → ℕ
room_for t most out = min most (length out / outcome_length t)

-- what a call for at most so many outcomes is given back
unfoldable pub table_listing : Table → ℕ → List ℕ → List ℕ → ℕ → Reply Refused Listing
table_listing t most previous out b =
    reply_unless (first_line t.count (outcome_lines t previous out b)) (listing t previous (room_for t most out) b)

-- the outcomes stand one behind the other; "spent, "none left" and refusals write nothing, and places past an outcome stay"
abbrev pub places_after : Reply Refused Listing → List ℕ → List ℕ
places_after (refused r) out = out
places_after (answered (given os)) out = written (flat os) out
places_after (answered none_left) out = out
places_after (answered spent) out = out

-- the code's reply in the paper's words; the outcomes are read off the buffer
abbrev pub listing_of : Result code.Listing Refusal → List ℕ → Reply Refused Listing
listing_of (Err r) out = refused (refusal_of r)
listing_of (Ok (Listed n w)) out = answered (given (rows w n out))
listing_of (Ok NoneLeft) out = answered none_left
listing_of (Ok Spent) out = answered spent

-- the number of values of an outcome in a reply; 0 where it has none
abbrev pub values_in : Reply Refused Listing → ℕ
values_in (refused r) = 0
values_in (answered (given [])) = 0
values_in (answered (given (o ∷ os))) = length o
values_in (answered none_left) = 0
values_in (answered spent) = 0

-- the number that the code's reply says
abbrev pub values_of : Result code.Listing Refusal → ℕ
values_of (Err r) = 0
values_of (Ok (Listed n w)) = w
values_of (Ok NoneLeft) = 0
values_of (Ok Spent) = 0
