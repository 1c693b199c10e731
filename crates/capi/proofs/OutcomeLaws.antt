-- The word by the numbers that a reply says is that of the outcomes in the buffer.
use Prim.Native.Nat.{ℕ}
use mathlib.Core.Path.{◌≡◌, refl, sym, ap, ap₂, subst, ◌∙◌}
use mathlib.Core.List.{List}
use lib.ListN.{length}
use Rattle.lists.specs.Reply.{Reply}
use Rattle.refusals.specs.Lines.{Refused}
use Rattle.sorted_rows.specs.Sorted.{rows}
use Rattle.sorted_rows.proofs.RowsLaws.{rows-length}
use Rattle.outcomes.specs.Outcomes.{Listing}
use Rattle.std.specs.Prelude.{Result, Ok, Err}
use Rattle.refusals.specs.declared.Refusal.{Refusal}
use Rattle.outcome_listing.specs.declared.Listing as code
use Rattle.outcome_listing.specs.declared.Listing.TheVariants as outcome
use Rattle.outcome_listing.specs.Replies.{listing_of, values_in, values_of}
use Rattle.answer_word.specs.Words.{word, listing_word}
use Rattle.answer_word.specs.Given.{listed_word}

pub listed-word : (told : ℕ → ℕ) (r : Result code.Listing Refusal) (out : List ℕ) (reply : Reply Refused Listing) → listing_of r out ≡ reply →
    values_of r ≡ values_in reply → listed_word told r ≡ listing_word told reply
listed-word told r out reply e v = same r (v ∙ ap values_in (sym e)) ∙ ap (listing_word told) e
  where
    same : (r : Result code.Listing Refusal) → values_of r ≡ values_in (listing_of r out) → listed_word told r ≡ listing_word told (listing_of r out)
    same (Err q) h = refl
    same (Ok (outcome.Listed n w)) h = ap₂ (λ (a m : ℕ). word 7 a 0 0 (told m)) h (sym (rows-length w n out))
    same (Ok outcome.NoneLeft) h = refl
    same (Ok outcome.Spent) h = refl
