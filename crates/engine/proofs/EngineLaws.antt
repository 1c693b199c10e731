-- What the caller of the engine cites: of a whole order, and of one step of a search.
use Prim.Native.Nat.{ℕ, suc}
use mathlib.Core.Path.{◌≡◌, sym, ap, ◌∙◌}
use mathlib.Core.Bool.{Bool, true, false}
use mathlib.Core.List.{List, [], ◌∷◌}
use mathlib.Core.Logic.{◌↔◌}
use lib.ListN.{length}
use lib.Count.{ones}
use Rattle.masks.specs.MaskOf.{mask_of}
use Rattle.masks.proofs.PowerLaws.{lt-pow}
use Rattle.masks.proofs.WithinLaws.{ones-within}
use Rattle.prefixes.specs.Listed.{after}
use Rattle.prefixes.specs.Answer.{found, none_left, spent}
use Rattle.prefixes.specs.Statements.{seek}
use Rattle.successors.specs.CleanMasks.{clean_by}
use Rattle.ready_events.proofs.CleanLaws.{clean-ones, clean-within}

module _ (preds : List ℕ) (mem : ℕ) where
  -- a clean list has all events exactly where its mask is theirs
  pub whole : (p : List ℕ) → clean_by preds mem p ≡ true → (mask_of p ≡ mem) ↔ (length p ≡ ones mem)
  whole p h =
      let t = ones-within mem (mask_of p) mem (lt-pow mem) (clean-within preds mem p h) in
      (λ e. sym (clean-ones preds mem p h) ∙ ap ones e, λ e. t.1 (clean-ones preds mem p h ∙ e))

-- One step of a search along an ascending list: p was visited last, b may still be visited, n were.
module _ (goal : List ℕ → Bool) (l : List (List ℕ)) (p : List ℕ) (b n : ℕ) where
  -- none comes next
  pub step-none : after p l ≡ [] → seek goal (after p l) p b n ≡ none_left n
  unfolding seek
  step-none e = rw e

  module _ (q : List ℕ) (first : after p l ≡ q ∷ after q l) where
    -- q comes next, and no more may be visited
    pub step-spent : b ≡ 0 → seek goal (after p l) p b n ≡ spent p n
    unfolding seek
    step-spent z = rw (first, z)

    -- q comes next, and is what is looked for
    pub step-found : (b' : ℕ) → b ≡ suc b' → goal q ≡ true → seek goal (after p l) p b n ≡ found q (suc n)
    unfolding seek
    step-found b' z g = rw (first, z, g)

    -- q comes next, and is not
    pub step-on : (b' : ℕ) → b ≡ suc b' → goal q ≡ false → seek goal (after p l) p b n ≡ seek goal (after q l) q b' (suc n)
    unfolding seek
    step-on b' z g = rw (first, z, g)
