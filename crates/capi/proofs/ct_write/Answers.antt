use Rattle.answer_word.specs.Words.{refusal_word}
use mathlib.Core.Path.{ap, ◌∙◌}
use Rattle.capi.proofs.ct_write.Goals as goal

pub returns : goal.returns
returns c = record { value = c.done_word.ensures ∙ ap refusal_word c.write.ensures.result_value; out_after = c.write.ensures.out_after }
