-- The word of the code's reply to a search or a decision, whose length stands for the prefix in the buffer; and what fits in it.
use Rattle.std.specs.Prelude.{ℕ, ◌^◌, ◌<◌, Option, Some, None, Result, Ok, Err}
use Rattle.refusals.specs.Refusals.{refusal_of}
use Rattle.witness_walk.specs.declared.Ending.{Ending}
use Rattle.witness_walk.specs.declared.Ending.TheVariants.{Found, NoneLeft, Spent}
use Rattle.text.specs.declared.TextRefusal.{TextRefusal}
use Rattle.text.specs.declared.TextRefusal.TheVariants as text
use Rattle.text.specs.TextRefusals.{text_refusal_of}
use Rattle.outcome_listing.specs.declared.Listing.{Listing}
use Rattle.outcome_listing.specs.declared.Listing.TheVariants as outcome
use Rattle.refusals.specs.declared.Refusal.{Refusal}
use Rattle.answer_word.specs.Words.{word, refusal_word}

abbrev pub ending_word : Ending → ℕ
ending_word (Found len v) = word 7 len 0 0 v
ending_word (NoneLeft v) = word 8 0 0 0 v
ending_word (Spent len v) = word 9 len 0 0 v

abbrev pub given_word : Result Ending Refusal → ℕ
given_word (Ok o) = ending_word o
given_word (Err r) = refusal_word (refusal_of r)

abbrev pub text_given_word : Result Ending TextRefusal → ℕ
text_given_word (Ok o) = ending_word o
text_given_word (Err r) = refusal_word (text_refusal_of r)

-- the word of a reply that lists outcomes, by the numbers that it says
abbrev pub listed_word : (told : ℕ → ℕ) → Result Listing Refusal → ℕ
listed_word told (Ok (outcome.Listed n w)) = word 7 w 0 0 (told n)
listed_word told (Ok outcome.NoneLeft) = word 8 0 0 0 0
listed_word told (Ok outcome.Spent) = word 9 0 0 0 0
listed_word told (Err r) = refusal_word (refusal_of r)

abbrev pub decided_word : Result (Option ℕ) Refusal → ℕ
decided_word (Ok (Some len)) = word 7 len 0 0 0
decided_word (Ok None) = word 8 0 0 0 0
decided_word (Err r) = refusal_word (refusal_of r)

-- a length below a byte's bound, a visited number below that of four bytes
abbrev pub EndingFits : Ending → Type 0
EndingFits (Found len v) = (len < 256) × (v < 2 ^ 32)
EndingFits (NoneLeft v) = v < 2 ^ 32
EndingFits (Spent len v) = (len < 256) × (v < 2 ^ 32)

abbrev pub GivenFits : Result Ending Refusal → Type 0
GivenFits (Ok o) = EndingFits o
GivenFits (Err r) = Unit {0}

-- a place below the bound of four bytes
abbrev pub PlaceFits : TextRefusal → Type 0
PlaceFits (text.At n place) = place < 2 ^ 32
PlaceFits (text.Table r) = Unit {0}

abbrev pub TextGivenFits : Result Ending TextRefusal → Type 0
TextGivenFits (Ok o) = EndingFits o
TextGivenFits (Err r) = PlaceFits r

abbrev pub DecisionFits : Result (Option ℕ) Refusal → Type 0
DecisionFits (Ok (Some len)) = len < 256
DecisionFits (Ok None) = Unit {0}
DecisionFits (Err r) = Unit {0}
