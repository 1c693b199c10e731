use mathlib.Core.Path.{◌∙◌}
use Rattle.condition_test.proofs.RunLaws.{starts_first, as-number}
use Rattle.condition_test.proofs.first.Goals as goal

pub returns : goal.returns
returns c = starts_first _ _ _ c.is_plain.ensures (c.from.ensures ∙ as-number _)
