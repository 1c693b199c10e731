use mathlib.Core.Path.{sym, ap, ◌∙◌}
use Rattle.text.specs.TextRefusals.{text_refused_by}
use Rattle.answer_word.specs.Words.{refusal_word}
use Rattle.capi.proofs.PlaceLaws.{place-fits}
use Rattle.capi.proofs.ct_read_text.Goals as goal

pub text_refusal_word-requires : goal.text_refusal_word-requires
text_refusal_word-requires c = place-fits _ _ (sym (ap text_refused_by c.in-Err.is) ∙ c.read_text.ensures.0)

pub returns-in-Ok : goal.returns-in-Ok
returns-in-Ok c = c.good_word.ensures ∙ ap refusal_word (sym (ap text_refused_by c.in-Ok.is) ∙ c.read_text.ensures.0)

pub returns-in-Err : goal.returns-in-Err
returns-in-Err c = c.text_refusal_word.ensures ∙ ap refusal_word (sym (ap text_refused_by c.in-Err.is) ∙ c.read_text.ensures.0)
