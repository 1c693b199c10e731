use Rattle.answer_word.specs.Words.{refusal_word}
use mathlib.Core.Path.{ap, ◌∙◌}
use Rattle.capi.proofs.ct_returns.Goals as goal

pub returns : goal.returns
returns c = record { value = c.done_word.ensures ∙ ap refusal_word c.returns.ensures.result_value; out_after = c.returns.ensures.out_after }
