use Rattle.answer_word.specs.Words.{step_word}
use mathlib.Core.Path.{ap, ◌∙◌}
use Rattle.capi.proofs.ct_step.Goals as goal

pub returns : goal.returns
returns c = c.step_word.ensures ∙ ap step_word c.step.ensures
