-- The condition that ends a text, once its parts are read.
use Prim.Native.Nat.{ℕ, ◌≤◌, ◌<◌}
use mathlib.Core.Path.{◌≡◌, ◌∙◌}
use mathlib.Core.List.{List, [], ◌∷◌, ◌++◌}
use native.Mathlib.Omega.{arith}
use lib.ListN.{length, take, drop}
use lib.Seq.{take-append-le}
use Rattle.text_format.specs.Bytes.{newline}
use Rattle.text_format.specs.Condition.{Condition, max_levels}
use Rattle.text_format.specs.Document.{max_text}
use Rattle.text_format.specs.Reading.{got, breach, condition}
use Rattle.condition_reader.specs.Words.{code, max_words}
use Rattle.condition_reader.specs.Steps.{refusal_in, place_in, FoundSays, Goes}
use Rattle.condition_reader.specs.declared.Breach.{Breach}
use Rattle.condition_reader.specs.declared.Step.{Step}
use Rattle.std.specs.Prelude.{Ok, Err}
use Rattle.condition_reader.proofs.NumberLaws.{here, none}
use Rattle.text.specs.Judged.{closing, outcome_in}

-- the newline behind a condition, and what stands behind it
module _ (s : List ℕ) (at : ℕ) (c : Condition) where
  pub closing-bad : (b : Breach) → FoundSays s at (newline ∷ []) (Err b) → closing c (drop at s) ≡ breach (refusal_in b) (drop (place_in b) s)
  unfolding closing
  closing-bad b h = rw h.0

  module _ (next : ℕ) (h : FoundSays s at (newline ∷ []) (Ok next)) where
    pub closing-more : next < length s → closing c (drop at s) ≡ breach 19 (drop next s)
    unfolding closing
    closing-more l = rw (h.0, here s next l)

    pub closing_end : length s ≤ next → closing c (drop at s) ≡ got c []
    unfolding closing
    closing_end l = rw (h.0, none s next l)

module _ (s before after : List ℕ) (from : ℕ) where
  abbrev start : Step
  start = record { at = from; len = 0 }

  -- the condition is a breach
  pub outcome-bad : (b : Breach) → Goes s before after (condition max_levels) start (Err b)
      → outcome_in (drop from s) ≡ breach (refusal_in b) (drop (place_in b) s)
  unfolding outcome_in
  outcome-bad b g = rw g.0

  -- it was read, and then its end
  module _ (r : Step) (g : Goes s before after (condition max_levels) start (Ok r)) where
    pub outcome-on : outcome_in (drop from s) ≡ closing g.0 (drop r.at s)
    unfolding outcome_in
    outcome-on = rw g.1

    module _ (short : length s ≤ max_text) (long : length after ≡ max_words) (rest : List ℕ) where
      pub few : r.len ≤ max_words
      few = omega (arith, g.3, g.4, short)

      pub outcome-words : take r.len (after ++ rest) ≡ code g.0
      outcome-words = take-append-le r.len after rest (omega (arith, few, long)) ∙ g.2
