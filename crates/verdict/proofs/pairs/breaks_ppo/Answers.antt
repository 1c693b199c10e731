use mathlib.Core.Bool.{not}
use mathlib.Core.Path.{sym, ap, ◌∙◌}
use Rattle.lists.proofs.BoolLaws.{and-taken, and_left}
use Rattle.model.specs.Axioms.{breaks_ppo}
use Rattle.verdict.proofs.pairs.breaks_ppo.Goals as goal

pub returns-then-ppo : goal.returns-then-ppo
unfolding breaks_ppo
returns-then-ppo c = ap not c.before-then-ppo.ensures ∙ and-taken _ _ (sym c.ppo.ensures ∙ c.if-ppo.true)

pub returns-else-ppo : goal.returns-else-ppo
unfolding breaks_ppo
returns-else-ppo c = and_left _ _ (sym c.ppo.ensures ∙ c.if-ppo.false)
