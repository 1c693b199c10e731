use Rattle.capi.proofs.OutcomeLaws.{listed-word}
use mathlib.Core.Path.{◌∙◌}
use Rattle.capi.proofs.ct_outcomes.Goals as goal

pub returns : goal.returns
returns c = let s = c.outcomes in
    record { value = c.outcomes_word.ensures ∙ listed-word (λ n. n) s.result _ _ s.ensures.out_after s.ensures.result_value; out_after = s.ensures.out_after_2 }
