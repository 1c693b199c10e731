-- The entries that list outcomes: from reading to their own lines; and a whole listing by such calls.
use Prim.Native.Nat.{ℕ, ◌+◌, ◌<◌}
use native.Mathlib.Omega.{arith}
use mathlib.Core.Path.{◌≡◌, refl, sym, ap, ◌∙◌, subst}
use mathlib.Core.Bool.{Bool, true, false, cond, not}
use mathlib.Core.List.Memᴰ
use mathlib.Core.List.{List, [], ◌∷◌, ◌++◌}
use mathlib.Core.Logic.{◌↔◌, ◌≢◌}
use lib.ListN.{length, take}
use lib.Dec.{ltb}
use native.Mathlib.Nat.{div-eq-sub-div}
use borrow.Author.Tests.{ltb-false, not-true}
use Rattle.lists.specs.Below.{some}
use Rattle.lists.specs.Lists.{◌∈◌, keep}
use Rattle.lists.specs.Ascending.{less, AllAbove, Ascending}
use Rattle.lists.specs.Reply.{Reply, refused, answered}
use Rattle.lists.proofs.MemberLaws.{keep-only, keep-each}
use Rattle.lists.proofs.AscendingLaws.{ascending-keep}
use Rattle.table.specs.declared.Table.{Table}
use Rattle.table.specs.Events.{memory}
use Rattle.decode.specs.Decoded.{decoded}
use Rattle.refusals.specs.Lines.{Refused, accepted, by_line, by_record, by_place, Line, first_line, unless, reply_unless}
use Rattle.refusals.proofs.PassedLaws.{passed-both, entry-declined, entry-own}
use Rattle.refusals.proofs.LineLaws.{whole-off}
use Rattle.block.specs.Reading.{reading_lines, read_refusal}
use Rattle.block.proofs.ReadingLaws.{passed-table}
use Rattle.model.specs.Prefixes.{clean_prefixes}
use Rattle.prefixes.specs.Listed.{after}
use Rattle.outcomes.specs.Outcomes.{readers, outcome_length, outcomes, Listing, given, none_left, spent, offered, listing}
use Rattle.outcomes.specs.Listings.{previous_after, given_by, said_none_left, previous, all_given, exhausted, IsOutcome}
use Rattle.outcomes.proofs.OutcomeLaws.{outcomes-each, outcomes-ascending, outcomes-nonempty}
use Rattle.outcomes.proofs.ListingLaws.{Stepped, step-still, step-offered, Steps, all-given, all-ended}
use Rattle.outcome_listing.specs.declared.Listing as code
use Rattle.refusals.specs.declared.Refusal.{Refusal}
use Rattle.std.specs.Prelude.{Result}
use Rattle.outcome_listing.specs.Replies.{outcome_too_short, outcome_lines, room_for, table_listing, places_after, listing_of, values_in, values_of}
use Rattle.lists.proofs.SomeLaws.{some-found}
use Rattle.bench.proofs.EntryLaws.{good-read}
use Rattle.bench.specs.Outcomes.{listing_lines, listing_reply, listing_buffer, OutcomeCall, OutcomePromised, OutcomeCalls, last_given, outcomes_given, said_none, HasOutcome, EveryOutcome}

-- a table that was read has a memory event, and so a location
module _ (s : List ℕ) (ok : read_refusal s ≡ accepted) where
  pub memory-read : some (decoded s).count (memory (decoded s)) ≡ true
  memory-read = (passed-table s ok).memory

  pub locations-read : 0 < (decoded s).locations
  locations-read =
      let e = some-found (decoded s).count (memory (decoded s)) memory-read in
      omega (arith, (good-read s ok).located e.0 e.1)

module _ (most : ℕ) (s p out : List ℕ) (b : ℕ) where
  abbrev reply : Reply Refused Listing
  reply = listing_reply most s p out b

  told : (a : Reply Refused Listing) → a ≡ reply → (r : Reply Refused Listing) (after· : List ℕ) (n : ℕ) →
      (r ≡ a) × ((after· ≡ places_after a out) × (n ≡ values_in a)) → (r ≡ reply) × ((after· ≡ places_after reply out) × (n ≡ values_in reply))
  told a e r after· n h = (h.0 ∙ e, (h.1.0 ∙ ap (λ (q : Reply Refused Listing). places_after q out) e, h.1.1 ∙ ap values_in e))

  -- reading refuses
  pub listing-declined : (q : Refused) → q ≡ read_refusal s → q ≢ accepted →
      (refused q ≡ reply) × ((out ≡ listing_buffer most s p out b) × (0 ≡ values_in reply))
  unfolding listing_buffer listing_reply listing_lines read_refusal
  listing-declined q e n =
      told (refused q) (entry-declined (decoded s).count (reading_lines s) _ _ q e n) (refused q) out 0 (refl, (refl, refl))

  -- it doesn't: the lines of the call and the listing decide
  pub listing-answered : (t : Table) (r : Result code.Listing Refusal) (after· : List ℕ) → read_refusal s ≡ accepted → t ≡ decoded s →
      (let a = table_listing t most p out b in (listing_of r after· ≡ a) × ((after· ≡ places_after a out) × (values_of r ≡ values_in a))) →
      (listing_of r after· ≡ reply) × ((after· ≡ listing_buffer most s p out b) × (values_of r ≡ values_in reply))
  unfolding listing_buffer listing_reply listing_lines read_refusal table_listing
  listing-answered t r after· ok e h =
      told (table_listing (decoded s) most p out b) (entry-own (decoded s).count (reading_lines s) _ _ ok) (listing_of r after·) after· (values_of r)
      (subst (λ (x : Table). let a = table_listing x most p out b in
      (listing_of r after· ≡ a) × ((after· ≡ places_after a out) × (values_of r ≡ values_in a))) e h)

-- what a call on a table does
listed-step : (t : Table) (p : List ℕ) (k b : ℕ) → 0 < k → Stepped (outcomes t) {R = Refused} p (answered (listing t p k b))
unfolding listing
listed-step t p k b h = go (ltb b (length (clean_prefixes t)))
  where
    go : (x : Bool) → Stepped (outcomes t) {R = Refused} p (answered (cond x spent (offered (take k (after p (outcomes t))))))
    go true = step-still (outcomes t) p (answered spent) refl refl refl
    go false = step-offered (outcomes t) (outcomes-ascending t) p k h

-- where there is room for one outcome, one at least is asked for
some-room : (t : Table) (most : ℕ) (out : List ℕ) → 0 < most → 0 < t.locations → outcome_too_short t out ≡ false → 0 < room_for t most out
unfolding room_for outcome_too_short outcome_length
some-room t most out h l e =
    let w : 0 < length (readers t) + t.locations = omega arith in
    omega (arith, h, div-eq-sub-div w (ltb-false _ _ e))

-- Of bytes that reading declines there is no outcome.
abbrev outcomes_of : List ℕ → List (List ℕ)
outcomes_of s = unless (read_refusal s) (outcomes (decoded s)) []

-- what holds of the outcomes of a table that was read, and of none
pub by-reading : (P : List (List ℕ) → Type 0) (q : Refused) (l : List (List ℕ)) → (q ≡ accepted → P l) → P [] → P (unless q l [])
by-reading P accepted l h n = h refl
by-reading P (by_line k) l h n = n
by-reading P (by_record k r) l h n = n
by-reading P (by_place k r) l h n = n

module _ (s : List ℕ) where
  ascends : Ascending (outcomes_of s)
  ascends = by-reading Ascending (read_refusal s) (outcomes (decoded s)) (λ ok. outcomes-ascending (decoded s)) tt

  nonempty : AllAbove [] (outcomes_of s)
  nonempty =
      by-reading (AllAbove []) (read_refusal s) (outcomes (decoded s))
      (λ ok. outcomes-nonempty (decoded s) (memory-read s ok) (locations-read s ok)) tt

  -- they are what some lawful order gives
  only : (o : List ℕ) → o ∈ outcomes_of s → HasOutcome s o
  only o m =
      by-reading (λ l. o ∈ l → HasOutcome s o) (read_refusal s) (outcomes (decoded s))
      (λ ok i. (ok, (outcomes-each (decoded s) (memory-read s ok) o).0 i)) (λ i. absurd (Memᴰ.not-nil i)) m

  each : (o : List ℕ) → HasOutcome s o → o ∈ outcomes_of s
  each o h =
      subst (λ (q : Refused). o ∈ unless q (outcomes (decoded s)) []) (sym h.0)
      ((outcomes-each (decoded s) (memory-read s h.0) o).1 h.1)

  -- a call, by its refusal
  module _ (most : ℕ) (asks : 0 < most) (p out : List ℕ) (b : ℕ) where
    call_step : Stepped (outcomes_of s) p (listing_reply most s p out b)
    unfolding listing_reply listing_lines outcome_lines read_refusal
    call_step = go (first_line (decoded s).count (reading_lines s ++ outcome_lines (decoded s) p out b)) refl
      where
        answer : Listing
        answer = listing (decoded s) p (room_for (decoded s) most out) b

        go : (q : Refused) → first_line (decoded s).count (reading_lines s ++ outcome_lines (decoded s) p out b) ≡ q →
            Stepped (outcomes_of s) p (reply_unless q answer)
        go accepted e =
            let r = passed-both (decoded s).count (reading_lines s) (outcome_lines (decoded s) p out b) e in
            let off16 = (whole-off _ _ _ _ (whole-off _ _ _ _ r.1).1).0 in
            subst (λ (q : Refused). Stepped (unless q (outcomes (decoded s)) []) {R = Refused} p (answered answer)) (sym r.0)
            (listed-step (decoded s) p (room_for (decoded s) most out) b
            (some-room (decoded s) most out asks (locations-read s r.0) off16))
        go (by_line k) e = step-still (outcomes_of s) p (refused (by_line k)) refl refl refl
        go (by_record k r) e = step-still (outcomes_of s) p (refused (by_record k r)) refl refl refl
        go (by_place k r) e = step-still (outcomes_of s) p (refused (by_place k r)) refl refl refl

  -- the calls in turn
  calls-step : (p : List ℕ) (cs : List OutcomeCall) → OutcomeCalls s p cs → Steps (outcomes_of s) ascends (λ p c. c.told) p cs
  calls-step p [] h = tt
  calls-step p (c ∷ cs) h = (
    subst (Stepped (outcomes_of s) p) (sym h.0.0) (call_step c.most c.asks p c.buffer c.allowance),
    calls-step (previous_after p c.told) cs h.1,
  )

  -- T-11 as one claim over the whole list of calls
  pub every-outcome : (cs : List OutcomeCall) → OutcomeCalls s [] cs → EveryOutcome s cs
  every-outcome cs h = record {
    exact = λ o. (
      (λ m. let r = keep-only upto (outcomes_of s) o (subst (λ (l : List (List ℕ)). o ∈ l) all m) in (only o r.0, not-true _ r.1)),
      λ k. subst (λ (l : List (List ℕ)). o ∈ l) (sym all) (keep-each upto (outcomes_of s) o (each o k.0) (ap not k.1)),
    );
    ascending = subst Ascending (sym all) (ascending-keep upto (outcomes_of s) ascends);
    complete = λ e o k.
        subst (λ (l : List (List ℕ)). o ∈ l) (sym (all-ended (outcomes_of s) ascends (λ p c. c.told) nonempty cs steps e)) (each o k);
  }
    where
      steps : Steps (outcomes_of s) ascends (λ p c. c.told) [] cs
      steps = calls-step [] cs h

      upto : List ℕ → Bool
      upto o = not (less (last_given cs) o)

      all : outcomes_given cs ≡ keep upto (outcomes_of s)
      all = all-given (outcomes_of s) ascends (λ p c. c.told) nonempty cs steps
