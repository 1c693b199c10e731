use Rattle.capi.proofs.DecisionLaws.{decision-fits, decision-word, memo-left}
use mathlib.Core.Path.{◌∙◌}
use Rattle.capi.proofs.ct_decide_with.Goals as goal

pub decision_word-requires : goal.decision_word-requires
decision_word-requires c = let d = c.decide_with in
    decision-fits _ _ _ _ d.result d.ensures.out_after d.ensures.result_value

pub returns : goal.returns
returns c = let d = c.decide_with in
    let e = c.decide_with.ensures in
    record {
      value = c.decision_word.ensures ∙ decision-word _ _ _ _ d.result e.out_after e.result_value;
      out_after = e.out_after_2;
      memo_left = memo-left _ _ _ _ d.result e.out_after e.result_value _ _ e.memo_after;
    }
