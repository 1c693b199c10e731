use Rattle.refusals.specs.Refusals.{refused_by}
use Rattle.answer_word.specs.Words.{refusal_word}
use mathlib.Core.Path.{sym, ap, ◌∙◌}
use Rattle.capi.proofs.ct_read.Goals as goal

pub returns-in-Ok : goal.returns-in-Ok
returns-in-Ok c = c.good_word.ensures ∙ ap refusal_word (sym (ap refused_by c.in-Ok.is) ∙ c.read.ensures.0)

pub returns-in-Err : goal.returns-in-Err
returns-in-Err c = c.refusal_word.ensures ∙ ap refusal_word (sym (ap refused_by c.in-Err.is) ∙ c.read.ensures.0)
