-- The entries that list outcomes, of any bytes, previous outcome, buffer and allowance: refusals 1 to 11, 21, 12, 16 and 17, the reply
-- and the buffer; and a whole listing by such calls.
use Rattle.std.specs.Prelude.{ℕ, ◌<◌, ◌≡◌, Bool, true, false, List, [], ◌∷◌, ◌++◌, ◌↔◌}
use Rattle.lists.specs.Lists.{◌∈◌}
use Rattle.lists.specs.Ascending.{less, Ascending}
use Rattle.lists.specs.Reply.{Reply}
use Rattle.decode.specs.Decoded.{decoded}
use Rattle.refusals.specs.Lines.{Refused, Line, accepted, first_line, reply_unless}
use Rattle.block.specs.Reading.{reading_lines, read_refusal}
use Rattle.outcomes.specs.Outcomes.{Listing, listing}
use Rattle.outcomes.specs.Listings.{previous_after, previous, all_given, exhausted, IsOutcome}
use Rattle.outcome_listing.specs.Replies.{most_outcomes, outcome_lines, room_for, places_after}

-- the lines: 1 to 11, 21, 12, 16, 17
unfoldable pub listing_lines : List ℕ → List ℕ → List ℕ → ℕ → List Line
listing_lines s p out b = reading_lines s ++ outcome_lines (decoded s) p out b

-- what a call for at most so many outcomes is given back after the previous outcome p, and what it leaves in the buffer
unfoldable pub listing_reply : ℕ → List ℕ → List ℕ → List ℕ → ℕ → Reply Refused Listing
listing_reply most s p out b =
    reply_unless (first_line (decoded s).count (listing_lines s p out b)) (listing (decoded s) p (room_for (decoded s) most out) b)

unfoldable pub listing_buffer : ℕ → List ℕ → List ℕ → List ℕ → ℕ → List ℕ
listing_buffer most s p out b = places_after (listing_reply most s p out b) out

-- for the next outcome
abbrev pub outcome_reply : List ℕ → List ℕ → List ℕ → ℕ → Reply Refused Listing
outcome_reply = listing_reply 1

abbrev pub outcome_buffer : List ℕ → List ℕ → List ℕ → ℕ → List ℕ
outcome_buffer = listing_buffer 1

-- for as many as the buffer has room for
abbrev pub outcomes_reply : List ℕ → List ℕ → List ℕ → ℕ → Reply Refused Listing
outcomes_reply = listing_reply most_outcomes

abbrev pub outcomes_buffer : List ℕ → List ℕ → List ℕ → ℕ → List ℕ
outcomes_buffer = listing_buffer most_outcomes

-- a call for at most so many outcomes (`bench::outcome`: 1, `bench::outcomes`: 64), with any allowance and any buffer; what it was
-- answered, and the buffer then
pub record OutcomeCall : Type 0 where
  pub most : ℕ
  pub asks : 0 < most
  pub allowance : ℕ
  pub buffer : List ℕ
  pub told : Reply Refused Listing
  pub after : List ℕ

module _ (s : List ℕ) where
  -- what the entries ensure of a call after a previous outcome
  abbrev pub OutcomePromised : List ℕ → OutcomeCall → Type 0
  OutcomePromised p c =
      (c.told ≡ listing_reply c.most s p c.buffer c.allowance)
      × (c.after ≡ listing_buffer c.most s p c.buffer c.allowance)

  -- calls on the same bytes, refused and spent ones included, each given the outcome that those before it gave last
  abbrev pub OutcomeCalls : List ℕ → List OutcomeCall → Type 0
  OutcomeCalls p [] = Unit {0}
  OutcomeCalls p (c ∷ cs) = OutcomePromised p c × OutcomeCalls (previous_after p c.told) cs

-- from the empty list
module _ (cs : List OutcomeCall) where
  abbrev pub last_given : List ℕ
  last_given = previous (λ p c. c.told) [] cs

  abbrev pub outcomes_given : List (List ℕ)
  outcomes_given = all_given (λ p c. c.told) [] cs

  abbrev pub said_none : Bool
  said_none = exhausted (λ p c. c.told) [] cs

-- "list every outcome that some lawful order gives": bytes that reading declines hold no table, and so have none
abbrev pub HasOutcome : List ℕ → List ℕ → Type 0
HasOutcome s o = (read_refusal s ≡ accepted) × IsOutcome (decoded s) o

module _ (s : List ℕ) (cs : List OutcomeCall) where
  pub record EveryOutcome : Type 0 where
    -- given are exactly the outcomes up to the one given last
    pub exact : (o : List ℕ) → (o ∈ outcomes_given cs) ↔ (HasOutcome s o × (less (last_given cs) o ≡ false))
    -- "Outcomes come in ascending order, each once"
    pub ascending : Ascending (outcomes_given cs)
    -- once a call has said that none are left, every outcome was given
    pub complete : said_none cs ≡ true → (o : List ℕ) → HasOutcome s o → o ∈ outcomes_given cs
