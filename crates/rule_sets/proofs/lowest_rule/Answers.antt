use native.Mathlib.Omega.{arith}
use lib.Count.{trailing_le}
use borrow.Author.Tests.{eq-eqb, ne_eqb}
use Rattle.rule_sets.proofs.lowest_rule.Goals as goal

pub returns-then-set-eq0 : goal.returns-then-set-eq0
returns-then-set-eq0 c = rw (eq-eqb _ _ c.if-set-eq0.true)

pub overflow_cast-result : goal.overflow_cast-result
overflow_cast-result c = omega (arith, trailing_le 16 c.args.set)

pub overflow_add-result : goal.overflow_add-result
overflow_add-result c = omega (arith, trailing_le 16 c.args.set)

pub returns : goal.returns
returns c = rw (ne_eqb _ _ c.if-set-eq0.false)
