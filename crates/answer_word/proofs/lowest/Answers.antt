use Rattle.answer_word.specs.Words.{lowest_of}
use Rattle.rule_sets.proofs.MaskLaws.{lowest-in}
use native.Mathlib.Omega.{arith}
use mathlib.Core.Path.{◌∙◌}
use Rattle.answer_word.proofs.lowest.Goals as goal

pub returns : goal.returns
unfolding lowest_of
returns c = c.lowest_rule.ensures ∙ lowest-in c.args.set (omega arith)
