use mathlib.Core.Path.{ap, ◌∙◌}
use Rattle.rule_sets.specs.RuleMask.{set_mask}
use Rattle.rules.proofs.rule_set.Goals as goal

pub returns : goal.returns
returns c = c.set_mask.ensures ∙ ap set_mask c.rules.ensures
