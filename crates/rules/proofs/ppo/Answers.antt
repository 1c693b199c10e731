use mathlib.Core.Path.{sym, ◌∙◌}
use Rattle.model.specs.Rules.{may_order}
use Rattle.rules.proofs.RuleLaws.{ppo-taken, ppo-left}
use Rattle.table.proofs.EventTests.{of_events}
use Rattle.rules.proofs.ppo.Goals as goal

pub returns-then-may_order : goal.returns-then-may_order
unfolding may_order of_events
returns-then-may_order c = ppo-taken _ _ _ _ _ (sym c.may_order.ensures ∙ c.if-may_order.true) c.rule_set.ensures

pub returns-else-may_order : goal.returns-else-may_order
unfolding may_order of_events
returns-else-may_order c = ppo-left _ _ _ _ (sym c.may_order.ensures ∙ c.if-may_order.false)
