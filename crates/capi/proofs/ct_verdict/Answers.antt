use Rattle.answer_word.specs.Words.{judged_word}
use mathlib.Core.Path.{ap, ◌∙◌}
use Rattle.capi.proofs.ct_verdict.Goals as goal

pub returns : goal.returns
returns c = c.verdict_word.ensures ∙ ap judged_word c.verdict.ensures
