use Rattle.answer_word.specs.Words.{advice_word}
use mathlib.Core.Path.{ap, ◌∙◌}
use Rattle.capi.proofs.ct_advise.Goals as goal

pub returns : goal.returns
returns c = c.advice_word.ensures ∙ ap advice_word c.advise.ensures
