use Rattle.capi.proofs.DecisionLaws.{decision-fits, decision-word}
use mathlib.Core.Path.{◌∙◌}
use Rattle.capi.proofs.ct_decide.Goals as goal

pub decision_word-requires : goal.decision_word-requires
decision_word-requires c = let d = c.decide in decision-fits _ _ _ _ d.result d.ensures.out_after d.ensures.result_value

pub returns : goal.returns
returns c = let d = c.decide in
    record { value = c.decision_word.ensures ∙ decision-word _ _ _ _ d.result d.ensures.out_after d.ensures.result_value; out_after = d.ensures.out_after_2 }
