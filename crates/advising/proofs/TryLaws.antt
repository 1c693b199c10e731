-- Trying sets one after the other: what was tried so far and didn't help leaves it to what is left.
use Prim.Native.Nat.{ℕ, suc, ◌+◌, ◌-◌, ◌^◌, ◌≤◌, ◌<◌}
use native.Mathlib.Omega.{arith}
use native.Mathlib.Nat.{sub-zero}
use native.Mathlib.Numerals.{add-one}
use mathlib.Core.Path.{◌≡◌, refl, sym, ap, ◌∙◌, subst}
use mathlib.Core.Bool.{Bool, true, false, false≢true, true≢false}
use mathlib.Core.List.{List, [], ◌∷◌, ◌++◌, map}
use lib.ListN.{length}
use lib.Count.{ones}
use lib.Dec.{eqb}
use borrow.Author.Tests.{eq-eqb, ne_eqb}
use Rattle.lists.specs.Below.{up_from}
use Rattle.lists.specs.Lists.{kept, keep}
use Rattle.lists.specs.Reply.{Reply, answered}
use Rattle.refusals.specs.Lines.{Refused}
use Rattle.prefixes.specs.Answer.{Answer, found, none_left, spent}
use Rattle.prefixes.specs.Listed.{joined}
use Rattle.advice.specs.Sets.{of_size, by_size}
use Rattle.advice.specs.Advice.{Advice, fences_dont_help, decided_by, first_unfound}
use Rattle.advising.specs.Chosen.{chosen, down_from}
use Rattle.advising.specs.Replies.{decides}
use Rattle.advising.proofs.MaskLaws.{sets-masks, chosen-ones}

abbrev says : Advice → Reply Refused Advice
says a = answered a

module _ (answer_of : List ℕ → Answer) where
  abbrev first : List (List ℕ) → Advice
  first l = first_unfound answer_of l

  first_stops : (l m : List (List ℕ)) → decides (says (first l)) ≡ true → first (l ++ m) ≡ first l
  unfolding first_unfound
  first_stops [] m h = absurd (false≢true h)
  first_stops (s ∷ l) m h = go (answer_of s) h (first_stops l m)
    where
      go : (a : Answer) → decides (says (decided_by a s (first l))) ≡ true → (decides (says (first l)) ≡ true → first (l ++ m) ≡ first l) →
          decided_by a s (first (l ++ m)) ≡ decided_by a s (first l)
      go (found p v) h later = later h
      go (none_left v) h later = refl
      go (spent p v) h later = refl

  first_on : (l m : List (List ℕ)) → decides (says (first l)) ≡ false → first (l ++ m) ≡ first m
  unfolding first_unfound
  first_on [] m h = refl
  first_on (s ∷ l) m h = go (answer_of s) h (first_on l m)
    where
      go : (a : Answer) → decides (says (decided_by a s (first l))) ≡ false → (decides (says (first l)) ≡ false → first (l ++ m) ≡ first m) →
          decided_by a s (first (l ++ m)) ≡ first m
      go (found p v) h later = later h
      go (none_left v) h later = absurd (true≢false h)
      go (spent p v) h later = absurd (true≢false h)

  -- r is what a part says, before m
  module _ {r : Reply Refused Advice} (l m : List (List ℕ)) (e : r ≡ says (first l)) {b : Bool} (n : b ≡ decides r) where
    part-stops : b ≡ true → r ≡ says (first (l ++ m))
    part-stops h = e ∙ ap says (sym (first_stops l m (sym (n ∙ ap decides e) ∙ h)))

    part-on : b ≡ false → first (l ++ m) ≡ first m
    part-on h = first_on l m (sym (n ∙ ap decides e) ∙ h)

  -- The sets of k entries, by masks downward.
  module _ (l : List ℕ) (k : ℕ) where
    -- those of the masks below m
    abbrev sized : ℕ → List (List ℕ)
    sized m = keep (λ s. eqb (length s) k) (map (chosen l) (down_from m))

    -- at most those of the masks below m are left to try
    abbrev pub MasksLeft : ℕ → Type 0
    MasksLeft m = (m ≤ 2 ^ length l) × (first (of_size l k) ≡ first (sized m))

    pub masks-start : (m : ℕ) → m ≡ 2 ^ length l → MasksLeft m
    unfolding of_size
    masks-start m e = (
      omega (arith, e),
      ap (λ (ss : List (List ℕ)). first (keep (λ s. eqb (length s) k) ss)) (sets-masks l)
          ∙ ap (λ (n : ℕ). first (sized n)) (sym e),
    )

    module _ (m : ℕ) (i : MasksLeft m) (h : 0 < m) where
      one_less : m ≡ suc (m - 1)
      one_less = omega arith

      -- the set of the next mask, and its size
      next : List ℕ
      next = chosen l (m - 1)

      size : ones (m - 1) ≡ length next
      unfolding next
      size = chosen-ones l (m - 1) (omega (arith, i.0))

      next-left : (b : Bool) → eqb (length next) k ≡ b → first (of_size l k) ≡ first (kept b next (sized (m - 1)))
      unfolding down_from next
      next-left b e =
          i.1 ∙ ap (λ (n : ℕ). first (sized n)) one_less ∙ ap (λ (c : Bool). first (kept c (chosen l (m - 1)) (sized (m - 1)))) e

      -- it has another size
      pub masks-skip : (ones (m - 1) ≡ k → ⊥) → MasksLeft (m - 1)
      masks-skip z = (omega (arith, i.0), next-left false (ne_eqb (length next) k (λ e. z (size ∙ e))))

      -- it has this one: r is what it says
      module _ (z : ones (m - 1) ≡ k) {s : List ℕ} (q : s ≡ chosen l (m - 1)) {r : Reply Refused Advice}
          (e : r ≡ says (first (s ∷ []))) {b : Bool} (n : b ≡ decides r) where
        split : first (of_size l k) ≡ first ((s ∷ []) ++ sized (m - 1))
        unfolding next
        split = next-left true (eq-eqb (length next) k (sym size ∙ z)) ∙ ap (λ (x : List ℕ). first (x ∷ sized (m - 1))) (sym q)

        pub masks-stop : b ≡ true → r ≡ says (first (of_size l k))
        masks-stop h = part-stops (s ∷ []) (sized (m - 1)) e n h ∙ ap says (sym split)

        pub masks-on : b ≡ false → MasksLeft (m - 1)
        masks-on h = (omega (arith, i.0), split ∙ part-on (s ∷ []) (sized (m - 1)) e n h)

    pub masks-end : (m : ℕ) → MasksLeft m → m ≡ 0 → says fences_dont_help ≡ says (first (of_size l k))
    unfolding down_from first_unfound
    masks-end m i e = ap says (sym (i.1 ∙ ap (λ (n : ℕ). first (sized n)) e))

  -- All sets, by size.
  module _ (l : List ℕ) where
    -- those of k and more entries
    abbrev larger : ℕ → List (List ℕ)
    larger k = joined (of_size l) (up_from k (suc (length l) - k))

    abbrev pub SizesLeft : ℕ → Type 0
    SizesLeft k = first (by_size l) ≡ first (larger k)

    pub sizes-start : SizesLeft 0
    unfolding by_size
    sizes-start = ap (λ (m : ℕ). first (joined (of_size l) (up_from 0 m))) (sym (sub-zero (suc (length l))))

    module _ (k : ℕ) (i : SizesLeft k) (h : k ≤ length l) {r : Reply Refused Advice} (e : r ≡ says (first (of_size l k)))
        {b : Bool} (n : b ≡ decides r) where
      sizes-split : first (by_size l) ≡ first (of_size l k ++ larger (suc k))
      unfolding up_from
      sizes-split =
          let q : suc (length l) - k ≡ suc (suc (length l) - suc k) = omega arith in
          i ∙ ap (λ (m : ℕ). first (joined (of_size l) (up_from k m))) q

      pub sizes-stop : b ≡ true → r ≡ says (first (by_size l))
      sizes-stop z = part-stops (of_size l k) (larger (suc k)) e n z ∙ ap says (sym sizes-split)

      pub sizes-on : b ≡ false → SizesLeft (k + 1)
      sizes-on z = subst SizesLeft (sym (add-one k)) (sizes-split ∙ part-on (of_size l k) (larger (suc k)) e n z)

    pub sizes-end : (k : ℕ) → SizesLeft k → length l < k → says fences_dont_help ≡ says (first (by_size l))
    unfolding up_from first_unfound
    sizes-end k i h =
        let q : suc (length l) - k ≡ 0 = omega arith in
        ap says (sym (i ∙ ap (λ (m : ℕ). first (joined (of_size l) (up_from k m))) q))
