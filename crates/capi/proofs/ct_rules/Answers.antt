use Rattle.answer_word.specs.Words.{ruled_word}
use mathlib.Core.Path.{ap, ◌∙◌}
use Rattle.capi.proofs.ct_rules.Goals as goal

pub returns : goal.returns
returns c = c.pair_word.ensures ∙ ap ruled_word c.rules.ensures
