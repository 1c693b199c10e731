use Rattle.pair_rules.proofs.PairLaws.{pair-past, pair-late, pair-not, pair-ruled}
use Rattle.rule_sets.proofs.MaskLaws.{rules-in}
use Rattle.rule_sets.specs.RuleMask.{rules_in}
use Rattle.table.specs.Events.{memory, reads, writes, po, kind, hart, event}
use native.Mathlib.Omega.{arith}
use mathlib.Core.Path.{sym, ap, ◌∙◌}
use Rattle.pair_rules.proofs.held.Goals as goal

pub returns-then-b-from : goal.returns-then-b-from
returns-then-b-from c = pair-past _ _ _ _ (rw c.from.ensures at c.if-b-from.true)

pub returns-then-a-b : goal.returns-then-a-b
returns-then-a-b c = pair-late _ _ _ _ c.if-a-b.true

pub returns-then-not-may_order : goal.returns-then-not-may_order
unfolding memory reads writes po kind hart event
returns-then-not-may_order c = pair-not _ _ _ _ (omega arith) (omega arith) (sym c.may_order.ensures ∙ c.if-not-may_order.true)

pub returns : goal.returns
unfolding memory reads writes po kind hart event
returns c = ap rules_in c.rule_set.ensures ∙ rules-in _ _ _ _ ∙ pair-ruled _ _ _ _ (omega arith) (omega arith) (sym c.may_order.ensures ∙ c.if-not-may_order.false)
