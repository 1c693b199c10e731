-- The walk for any order ends at the next lawful one.
use Prim.Native.Nat.{ℕ}
use mathlib.Core.Path.{◌≡◌, refl, ap, ◌∙◌}
use mathlib.Core.Bool.{Bool}
use mathlib.Core.List.{List}
use lib.ListN.{take}
use Rattle.prefixes.specs.Listed.{after}
use Rattle.prefixes.specs.Statements.{seek}
use Rattle.model.specs.Witness.{witness_for}
use Rattle.model.specs.Prefixes.{clean, prefixes_by, clean_prefixes}
use Rattle.condition_test.specs.Wanted.{any_words, any_order}
use Rattle.condition_test.proofs.WantedLaws.{any-wanted}
use Rattle.engine.specs.Entered.{always}
use Rattle.engine.proofs.EnteredLaws.{reachable-always}
use Rattle.witness_walk.specs.declared.Ending.{Ending}
use Rattle.witness_walk.specs.declared.Path.{Path}
use Rattle.witness_walk.specs.Running.{Runs}
use Rattle.witness_walk.proofs.EntersLaws.{enters-always}
use Rattle.outcome_listing.specs.Gathering.{NextLawful}

pub next-lawful : (facts : List (List ℕ)) (preds : List ℕ) (mem : ℕ) (order goods : List ℕ) (from : Path) (b : ℕ) (o : Ending)
    (after· : List ℕ) → Runs facts any_words preds mem 0 order goods from b o after· → from.later ≡ from.masks.can →
    NextLawful facts preds mem (take from.keep order) b after· o
unfolding clean_prefixes
next-lawful facts preds mem order goods from b o after· ran l t w m c =
    ran t any_order always
    (record { known = w.known; predecessors = w.predecessors; memory = m; entering = enters-always t })
    (record { wanted = any-wanted t facts; witnesses = λ gmo h. refl })
    (record {
      reached = ap (λ (ok : List ℕ → Bool). ok p) (reachable-always (clean t)) ∙ c;
      untried = l;
      kept = λ n. absurd (n refl);
    })
    ∙ ap (λ (ok : List ℕ → Bool). seek (witness_for t any_order) (after p (prefixes_by t ok)) p b 0) (reachable-always (clean t))
  where
    p : List ℕ
    p = take from.keep order
