-- What is handed out of the rows gathered, and the lines of a call told one by one.
use Prim.Native.Nat.{ℕ, zero, suc, ◌+◌, ◌*◌, ◌/◌, ◌≤◌, ◌<◌, min}
use native.Mathlib.Omega.{arith}
use native.Mathlib.Nat.{mul-le-mul, mul-le-mul_left, mul-div-le}
use mathlib.Core.Path.{◌≡◌, refl, sym, ap, ◌∙◌, subst}
use mathlib.Core.Bool.{Bool, true, false, cond, not, ◌&&◌}
use mathlib.Core.List.{List, ◌++◌}
use lib.ListN.{length, take, drop}
use lib.Seq.{length-take-le}
use lib.Count.{ones}
use lib.Dec.{eqb}
use borrow.Author.Tests.{lt-ltb, le-ltb}
use Rattle.lists.specs.Reply.{Reply, refused, answered}
use Rattle.sorted_rows.specs.Sorted.{rows, flat}
use Rattle.sorted_rows.proofs.RowsLaws.{rows-length, rows-joined, rows-wide, flat_rows}
use Rattle.lists.proofs.BelowLaws.{below-few}
use Rattle.lists.proofs.DistinctLaws.{kept-distinct}
use Rattle.masks.proofs.MaskOfLaws.{mask-ones}
use Rattle.table.specs.declared.Table.{Table}
use Rattle.table.specs.Events.{reads}
use Rattle.table.specs.Counts.{Small}
use Rattle.event_sets.specs.Sets.{sets_of}
use Rattle.prefixes.specs.Listed.{after}
use Rattle.model.specs.Prefixes.{clean_prefixes}
use Rattle.refusals.specs.declared.Refusal.{Refusal}
use Rattle.refusals.specs.Lines.{Refused, accepted, by_line, first_line, reply_unless}
use Rattle.refusals.proofs.LineLaws.{none_here, whole_here, whole-next}
use Rattle.search.specs.Replies.{max_allowance}
use Rattle.outcome_listing.proofs.StandLaws.{readers-mask}
use Rattle.outcomes.specs.Outcomes.{readers, outcome_length, outcomes, Listing, given, spent, offered, listing}
use Rattle.std.specs.Prelude.{Option, Some, None, Result, Ok}
use Rattle.outcome_listing.specs.declared.Listing as code
use Rattle.outcome_listing.specs.declared.Listing.TheVariants.{Listed, NoneLeft, Spent}
use Rattle.outcome_listing.specs.Gathering.{Gathers, Within, Fits, gathered_as}
use Rattle.outcome_listing.specs.Replies.{previous_wrong, outcome_too_short, outcome_lines, room_for, table_listing, places_after, listing_of, values_in, values_of}

-- the rows at the front of a buffer
module _ (w n : ℕ) (kept out after· : List ℕ) (some : n ≡ 0 → ⊥) (room : w * n ≤ length kept) (copied : after· ≡ take (w * n) kept ++ drop (w * n) out) where
  as-flat : after· ≡ flat (rows w n kept) ++ drop (w * n) out
  as-flat = copied ∙ ap (λ (l : List ℕ). l ++ drop (w * n) out) (sym (flat_rows w n kept room))

  offered-rows : offered (rows w n kept) ≡ given (rows w n kept)
  unfolding rows
  offered-rows = go n some
    where
      go : (m : ℕ) → (m ≡ 0 → ⊥) → offered (rows w m kept) ≡ given (rows w m kept)
      go zero h = absurd (h refl)
      go (suc m) h = refl

  pub rows-said : listing_of (Ok (Listed n w)) after· ≡ answered (offered (rows w n kept))
  rows-said =
      ap {B = Reply Refused Listing} (λ (l : List (List ℕ)). answered (given l))
      (ap (rows w n) as-flat
      ∙ ap (λ (m : ℕ). rows w m (flat (rows w n kept) ++ drop (w * n) out)) (sym (rows-length w n kept))
      ∙ rows-joined w (rows w n kept) (drop (w * n) out) (rows-wide w n kept room))
      ∙ ap {B = Reply Refused Listing} answered (sym offered-rows)

  pub rows_written : after· ≡ places_after (answered (offered (rows w n kept))) out
  rows_written =
      as-flat
      ∙ ap (λ (k : ℕ). flat (rows w n kept) ++ drop k out)
      (sym (ap length (flat_rows w n kept room) ∙ length-take-le (w * n) kept room))
      ∙ ap (λ (a : Listing). places_after (answered a) out) (sym offered-rows)

  pub rows-counted : w ≡ values_in (answered (offered (rows w n kept)))
  unfolding rows
  rows-counted = go n some room
    where
      go : (m : ℕ) → (m ≡ 0 → ⊥) → w * m ≤ length kept → w ≡ values_in (answered (offered (rows w m kept)))
      go zero h k = absurd (h refl)
      go (suc m) h k = sym (length-take-le w kept (omega (arith, k)))

-- as many values as an outcome has
pub width_is : (t : Table) (r w : ℕ) → r ≡ (sets_of t).readers → w ≡ ones r + t.locations → w ≡ outcome_length t
unfolding outcome_length readers
width_is t r w e h =
    h ∙ ap (λ (n : ℕ). n + t.locations)
    (ap ones (e ∙ readers-mask t) ∙ mask-ones (readers t) (kept-distinct (reads t) t.count))

-- it has a value for each of at most 32 events and 8 locations
pub width_small : (t : Table) → Small t → outcome_length t ≤ 40
unfolding outcome_length readers
width_small t h = omega (arith, below-few (reads t) t.count, h.events, h.locations)

-- what was gathered is handed out by the reply, with the buffer then
abbrev pub Delivers : ℕ → (kept out : List ℕ) → code.Listing → List ℕ → Option ℕ → Type 0
Delivers w kept out r after· g =
    (listing_of (Ok r) after· ≡ answered (gathered_as g w kept))
    × ((after· ≡ places_after (answered (gathered_as g w kept)) out) × (values_of (Ok r) ≡ values_in (answered (gathered_as g w kept))))

module _ (w : ℕ) (kept out : List ℕ) (g : Option ℕ) where
  pub none-delivered : (n : ℕ) → g ≡ Some n → n ≡ 0 → Delivers w kept out NoneLeft out g
  unfolding rows
  none-delivered n e z =
      subst (Delivers w kept out NoneLeft out) (sym e)
      (subst (λ (m : ℕ). Delivers w kept out NoneLeft out (Some m)) (sym z) (refl, (refl, refl)))

  pub over-delivered : g ≡ None → Delivers w kept out Spent out g
  over-delivered e = subst (Delivers w kept out Spent out) (sym e) (refl, (refl, refl))

  pub rows-delivered : (n : ℕ) (after· : List ℕ) → g ≡ Some n → (n ≡ 0 → ⊥) → Fits w (length kept) g →
      after· ≡ take (w * n) kept ++ drop (w * n) out → Delivers w kept out (Listed n w) after· g
  rows-delivered n after· e some f copied =
      let room = subst (Fits w (length kept)) e f in
      subst (Delivers w kept out (Listed n w) after·) (sym e) (
        rows-said w n kept out after· some room copied,
        (rows_written w n kept out after· some room copied, rows-counted w n kept out after· some room copied),
      )

-- what was gathered is the answer
pub gathered-listing : (t : Table) (room : ℕ) (previous : List ℕ) (b : ℕ) (g : Option ℕ) (kept : List ℕ) → Gathers t room previous b g kept →
    gathered_as g (outcome_length t) kept ≡ listing t previous room b
unfolding listing
gathered-listing t room previous b (Some n) kept h =
    ap offered h.1
    ∙ ap (λ (x : Bool). cond x spent (offered (take room (after previous (outcomes t))))) (sym (le-ltb b (length (clean_prefixes t)) h.0))
gathered-listing t room previous b None kept h =
    ap (λ (x : Bool). cond x spent (offered (take room (after previous (outcomes t))))) (sym (lt-ltb b (length (clean_prefixes t)) h))

-- the rows gathered have room among the rows kept, and in the buffer
pub room_fits : (w most top room k n : ℕ) (g : Option ℕ) → room ≡ min most (n / w) → w ≤ 40 → most ≤ top → 40 * top ≤ k → Within room g →
    Within top g × Fits w k g × Fits w n g
room_fits w most top room k n (Some m) e h l j i = (
  omega (arith, e, i),
  omega (arith, mul-le-mul {n₁ = w} {m₁ = m} {n₂ = 40} {m₂ = top} h (omega (arith, e, i))),
  omega (arith, mul-div-le n w, mul-le-mul_left {m = m} {n = n / w} w (omega (arith, e, i))),
)
room_fits w most top room k n None e h l j i = (tt, tt, tt)

-- what was gathered for so many is the listing
pub listing-is : (t : Table) (w most room : ℕ) (previous out : List ℕ) (b : ℕ) (g : Option ℕ) (kept : List ℕ) → w ≡ outcome_length t →
    room ≡ min most (length out / w) → Gathers t room previous b g kept → gathered_as g w kept ≡ listing t previous (room_for t most out) b
unfolding room_for
listing-is t w most room previous out b g kept e r h =
    ap (λ (x : ℕ). gathered_as g x kept) e ∙ gathered-listing t room previous b g kept h
    ∙ ap (λ (x : ℕ). listing t previous x b) (r ∙ ap (λ (x : ℕ). min most (length out / x)) e)

-- the lines, told one by one
module _ (t : Table) (most : ℕ) (previous out : List ℕ) (b : ℕ) where
  abbrev reply : Reply Refused Listing
  reply = table_listing t most previous out b

  -- a line refuses: nothing is written
  refused-by : (n : ℕ) → by_line n ≡ first_line t.count (outcome_lines t previous out b) →
      (refused (by_line n) ≡ reply) × ((out ≡ places_after reply out) × (0 ≡ values_in reply))
  unfolding table_listing
  refused-by n e =
      let r = ap (λ (q : Refused). reply_unless q (listing t previous (room_for t most out) b)) e in
      (r, (ap (λ (q : Reply Refused Listing). places_after q out) r, ap values_in r))

  -- whether it is refused by 12
  pub previous-is : (w : ℕ) → w ≡ outcome_length t → (r : Bool) → r ≡ (not (eqb (length previous) 0) && not (eqb (length previous) w)) →
      r ≡ previous_wrong t previous
  unfolding previous_wrong
  previous-is w e r h = h ∙ ap (λ (n : ℕ). not (eqb (length previous) 0) && not (eqb (length previous) n)) e

  pub previous-refused : previous_wrong t previous ≡ true →
      (refused (by_line 12) ≡ reply) × ((out ≡ places_after reply out) × (0 ≡ values_in reply))
  unfolding outcome_lines
  previous-refused h = refused-by 12 (whole_here _ _ _ _ h)

  module _ (fits : previous_wrong t previous ≡ false) where
    pub room-refused : length out < outcome_length t → (refused (by_line 16) ≡ reply) × ((out ≡ places_after reply out) × (0 ≡ values_in reply))
    unfolding outcome_lines outcome_too_short
    room-refused h = refused-by 16 (whole-next _ _ _ _ _ fits (whole_here _ _ _ _ (lt-ltb _ _ h)))

    module _ (room : outcome_length t ≤ length out) where
      pub allowance-refused : max_allowance < b → (refused (by_line 17) ≡ reply) × ((out ≡ places_after reply out) × (0 ≡ values_in reply))
      unfolding outcome_lines outcome_too_short
      allowance-refused h =
          refused-by 17 (whole-next _ _ _ _ _ fits (whole-next _ _ _ _ _ (le-ltb _ _ room) (whole_here _ _ _ _ (lt-ltb _ _ h))))

      -- no line refuses: what was gathered is handed out
      pub listing-replied : b ≤ max_allowance → (a : Listing) → a ≡ listing t previous (room_for t most out) b → (r : Result code.Listing Refusal) (after· : List ℕ) →
          (listing_of r after· ≡ answered a) × ((after· ≡ places_after (answered a) out) × (values_of r ≡ values_in (answered a))) →
          (listing_of r after· ≡ reply) × ((after· ≡ places_after reply out) × (values_of r ≡ values_in reply))
      unfolding table_listing outcome_lines outcome_too_short
      listing-replied h a e r after· d =
          let n : accepted ≡ first_line t.count (outcome_lines t previous out b) =
          whole-next _ _ _ _ _ fits (whole-next _ _ _ _ _ (le-ltb _ _ room) (whole-next _ _ _ _ _ (le-ltb _ _ h) (none_here _))) in
          let q = ap {B = Reply Refused Listing} answered e ∙ ap (λ (x : Refused). reply_unless x (listing t previous (room_for t most out) b)) n in
          (d.0 ∙ q, (d.1.0 ∙ ap (λ (x : Reply Refused Listing). places_after x out) q, d.1.1 ∙ ap values_in q))
