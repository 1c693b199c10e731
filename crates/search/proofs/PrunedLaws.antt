-- The second engine: with every reader watched, a prefix is entered exactly if it isn't spoiled.
use Prim.Native.Nat.{ℕ, ◌<◌}
use mathlib.Core.Path.{◌≡◌, refl, sym, ap, subst, ◌∙◌}
use mathlib.Core.Bool.{Bool, true, false, not, ◌&&◌, ◌||◌, true≢false}
use mathlib.Core.List.{List, [], ◌∷◌, ◌++◌}
use borrow.Author.Tests.{ltb-true, lt-ltb, not-true}
use Rattle.lists.specs.Lists.{all, has, distinct}
use Rattle.lists.proofs.BoolLaws.{and_l, and_r}
use Rattle.lists.proofs.ListLaws.{all-last}
use Rattle.masks.specs.Bit.{bit}
use Rattle.masks.proofs.MaskOfLaws.{mask_below}
use Rattle.table.specs.declared.Table.{Table}
use Rattle.table.specs.Events.{reads, memory}
use Rattle.model.specs.Returns.{final_value}
use Rattle.model.specs.Witness.{is_memory_event, stated_outcome, witness}
use Rattle.model.specs.Prefixes.{is_prefix, clean}
use Rattle.model.specs.Settled.{spoiled, unpruned}
use Rattle.placing.specs.Guards.{reads_stated}
use Rattle.placing.specs.GoodTable.{GoodTable}
use Rattle.pruning.proofs.SpoiledLaws.{spoiled-more}
use Rattle.pruning.proofs.UnprunedLaws.{witness-unspoiled}
use Rattle.event_sets.specs.Sets.{sets_of}
use Rattle.engine.specs.Entered.{entered, reachable}
use Rattle.witness_walk.specs.Running.{Enters}
use Rattle.std.specs.Prelude.{Result}
use Rattle.refusals.specs.declared.Refusal.{Refusal}
use Rattle.witness_walk.specs.declared.Ending.{Ending}
use Rattle.search.specs.Begins.{Replied, Searches}

-- the test by which the second engine enters a prefix
abbrev pub unspoiled : Table → List ℕ → Bool
unspoiled t p = not (spoiled t p)

-- the prefixes that a walk gets to with it are those that aren't pruned
reach-unpruned : (t : Table) → reachable (clean t) (unspoiled t) ≡ unpruned t
unfolding reachable entered unpruned
reach-unpruned t = refl

module _ {t : Table} (good : GoodTable t) {watched : ℕ} (every : watched ≡ (sets_of t).readers) where
  clean-parts : (p : List ℕ) (e : ℕ) → clean t (p ++ (e ∷ [])) ≡ true → (distinct (p ++ (e ∷ [])) ≡ true) × (e < t.count)
  unfolding clean is_prefix is_memory_event
  clean-parts p e c = (
    search (and_l, and_r),
    ltb-true e t.count (and_l _ (memory t e) (and_r (all (is_memory_event t) p) _ (sym (all-last (is_memory_event t) p e) ∙ search (and_l, and_r)))),
  )

  -- a reader is watched
  watched-is : (e : ℕ) → e < t.count → bit watched e ≡ reads t e
  unfolding sets_of
  watched-is e l =
      ap (λ (m : ℕ). bit m e) every ∙ mask_below (reads t) t.count e ∙ ap (λ (b : Bool). b && reads t e) (lt-ltb e t.count l)

  -- what doesn't read isn't asked
  asked : (p : List ℕ) (e : ℕ) (b : Bool) → reads t e ≡ b →
      reads_stated t (λ a. has a p) (final_value t p) e ≡ (not b || reads_stated t (λ a. has a p) (final_value t p) e)
  unfolding reads_stated
  asked p e true h = refl
  asked p e false h = rw h refl

  pub enters-unspoiled : Enters t watched (unspoiled t)
  unfolding spoiled
  enters-unspoiled = record {
    none = refl;
    more = λ p e c h.
        let d = clean-parts p e c in
        ap not (spoiled-more good.small p e d.0) ∙ step (spoiled t p) _ (not-true (spoiled t p) h) ∙ asked p e (reads t e) refl
        ∙ ap (λ (b : Bool). not b || reads_stated t (λ a. has a p) (final_value t p) e) (sym (watched-is e d.1));
  }
    where
      step : (s r : Bool) → s ≡ false → not (s || not r) ≡ r
      step true r h = absurd (true≢false h)
      step false true h = refl
      step false false h = refl

  -- a call along the prefixes that aren't pruned
  pub replied-pruned : {facts : List (List ℕ)} (start out : List ℕ) (b : ℕ) {r : Result Ending Refusal} {after : List ℕ} →
      Searches t facts [] watched start out b r after → Replied t (unpruned t) (stated_outcome t) start out b r after
  unfolding witness
  replied-pruned start out b {r} {after} s =
      subst (λ (ok : List ℕ → Bool). Replied t ok (stated_outcome t) start out b r after) (reach-unpruned t)
      (s (stated_outcome t) (unspoiled t) enters-unspoiled
      (record { wanted = refl; witnesses = λ gmo h. ap not (witness-unspoiled good gmo h) }))
