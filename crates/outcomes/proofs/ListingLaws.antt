-- A whole listing: each outcome once, ascending, none missing. Over any ascending list.
use Prim.Native.Nat.{ℕ, zero, suc, ◌<◌}
use native.Mathlib.Omega.{arith}
use mathlib.Core.Path.{◌≡◌, refl, sym, ap, ◌∙◌, subst}
use mathlib.Core.Bool.{Bool, true, false, not, ◌||◌, false≢true}
use mathlib.Core.List.{List, [], ◌∷◌, ◌++◌, append_assoc, append-nil, append_cancel_right, append-eq-nil_iff, cons-ne-nil}
use mathlib.Core.Logic.{◌⊎◌, ⊎_elim, inl, inr}
use lib.ListN.{take}
use lib.Seq.{take-nil}
use Rattle.lists.specs.Lists.{keep, last_or}
use Rattle.lists.specs.Reply.{Reply, refused, answered}
use Rattle.lists.specs.Ascending.{less, AllAbove, Ascending}
use Rattle.lists.proofs.AscendingLaws.{after-above, after_next, ascending-split}
use Rattle.prefixes.specs.Listed.{after}
use Rattle.outcomes.specs.Outcomes.{Listing, given, none_left, spent, offered}
use Rattle.outcomes.specs.Listings.{previous_after, given_by, said_none_left, previous, all_given, exhausted}

module _ (l : List (List ℕ)) where
  -- what a reply does after the previous outcome s
  pub record Stepped {R : Type 0} (s : List ℕ) (r : Reply R Listing) : Type 0 where
    pub on : given_by r ++ after (previous_after s r) l ≡ after s l
    pub ended : said_none_left r ≡ true → after s l ≡ []

  pub step-still : {R : Type 0} (s : List ℕ) (r : Reply R Listing) → given_by r ≡ [] → previous_after s r ≡ s → said_none_left r ≡ false →
      Stepped s r
  step-still s r g p n = record { on = rw (g, p); ended = λ h. absurd (false≢true (sym n ∙ h)) }

module _ (l : List (List ℕ)) (asc : Ascending l) where
  -- behind the first k above s come the rest
  taken : (m : List (List ℕ)) (s : List ℕ) (k : ℕ) → after s l ≡ m → take k m ++ after (last_or (λ o. true) s (take k m)) l ≡ m
  taken [] s k e = rw (take-nil {A = List ℕ} k) e
  taken (p ∷ m) s zero e = e
  taken (p ∷ m) s (suc k) e = ap (λ (x : List (List ℕ)). p ∷ x) (taken m p k (after_next s p l m asc e))

  pub step-offered : {R : Type 0} (s : List ℕ) (k : ℕ) → 0 < k → Stepped l {R = R} s (answered (offered (take k (after s l))))
  step-offered {R} s k h = go (take k (after s l)) (taken (after s l) s k refl) ends
    where
      ends : take k (after s l) ≡ [] → after s l ≡ []
      ends e = first (after s l) k h e
        where
          first : (m : List (List ℕ)) (k : ℕ) → 0 < k → take k m ≡ [] → m ≡ []
          first [] k h e = refl
          first (p ∷ m) zero h e = absurd (omega arith)
          first (p ∷ m) (suc k) h e = absurd (cons-ne-nil p (take k m) e)

      go : (os : List (List ℕ)) → os ++ after (last_or (λ o. true) s os) l ≡ after s l → (os ≡ [] → after s l ≡ []) →
          Stepped l {R = R} s (answered (offered os))
      go [] e f = record { on = e; ended = λ h. f refl }
      go (o ∷ os) e f = record { on = e; ended = λ h. absurd (false≢true h) }

  module _ {R C : Type 0} (reply : List ℕ → C → Reply R Listing) where
    -- what each of the calls does, in turn
    abbrev pub Steps : List ℕ → List C → Type 0
    Steps s [] = Unit {0}
    Steps s (c ∷ cs) = Stepped l s (reply s c) × Steps (previous_after s (reply s c)) cs

    walk : (s : List ℕ) (cs : List C) → Steps s cs → all_given reply s cs ++ after (previous reply s cs) l ≡ after s l
    unfolding all_given previous
    walk s [] h = refl
    walk s (c ∷ cs) h =
        append_assoc (given_by (reply s c)) (all_given reply (previous_after s (reply s c)) cs) _
        ∙ ap (λ (x : List (List ℕ)). given_by (reply s c) ++ x) (walk (previous_after s (reply s c)) cs h.1) ∙ h.0.on

    -- once a call has said none left, none is above the previous outcome reached
    walk-ended : (s : List ℕ) (cs : List C) → Steps s cs → exhausted reply s cs ≡ true → after (previous reply s cs) l ≡ []
    unfolding exhausted previous
    walk-ended s [] steps h = absurd (false≢true h)
    walk-ended s (c ∷ cs) steps h =
        go (said_none_left (reply s c)) refl h (walk-ended (previous_after s (reply s c)) cs steps.1)
      where
        next : List ℕ
        next = previous_after s (reply s c)

        rest : List (List ℕ)
        rest = after (previous reply next cs) l

        go : (b : Bool) → said_none_left (reply s c) ≡ b → (b || exhausted reply next cs) ≡ true →
            (exhausted reply next cs ≡ true → rest ≡ []) → rest ≡ []
        go true e h later =
            ((append-eq-nil_iff {p = all_given reply s (c ∷ cs)} {q = rest}).0 (walk s (c ∷ cs) steps ∙ steps.0.ended e)).1
        go false e h later = later h

    module _ (nonempty : AllAbove [] l) (cs : List C) (steps : Steps [] cs) where
      -- given are those up to the previous outcome reached
      pub all-given : all_given reply [] cs ≡ keep (λ o. not (less (previous reply [] cs) o)) l
      all-given =
          append_cancel_right (all_given reply [] cs) (keep (λ o. not (less end o)) l) (after end l)
          (walk [] cs steps ∙ after-above [] l nonempty ∙ sym (ascending-split end l asc))
        where
          end : List ℕ
          end = previous reply [] cs

      -- all of them, once a call has said none left
      pub all-ended : exhausted reply [] cs ≡ true → all_given reply [] cs ≡ l
      all-ended h =
          let e = walk-ended [] cs steps h in
          sym (append-nil (all_given reply [] cs)) ∙ ap (λ (x : List (List ℕ)). all_given reply [] cs ++ x) (sym e) ∙ walk [] cs steps
          ∙ after-above [] l nonempty
