use Rattle.capi.proofs.OutcomeLaws.{listed-word}
use mathlib.Core.Path.{◌∙◌}
use Rattle.capi.proofs.ct_outcome.Goals as goal

pub returns : goal.returns
returns c = let s = c.outcome in
    record { value = c.outcome_word.ensures ∙ listed-word (λ n. 0) s.result _ _ s.ensures.out_after s.ensures.result_value; out_after = s.ensures.out_after_2 }
