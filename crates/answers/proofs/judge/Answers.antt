use mathlib.Core.Path.{sym, ap, ◌∙◌}
use native.Mathlib.Omega.{arith}
use Rattle.lists.specs.Reply.{answered}
use Rattle.candidate.specs.CandidateLines.{returned_length_wrong}
use Rattle.answers.proofs.CandidateLaws.{judge-12, judge-13, judge-14, judge-none, order-length-wrong, returned-length}
use Rattle.answers.proofs.judge.Goals as goal

pub returns-then-order-total : goal.returns-then-order-total
unfolding returned_length_wrong
returns-then-order-total c = judge-12 _ _ _ (rw (order-length-wrong _ _ _ c.total.ensures, c.from.ensures) at c.if-order-total.true)

pub returns-then-order_wrong : goal.returns-then-order_wrong
unfolding returned_length_wrong
returns-then-order_wrong c = judge-13 _ _ _ (rw (order-length-wrong _ _ _ c.total.ensures, c.from.ensures) at c.if-order-total.false) (sym c.order_wrong.ensures ∙ c.if-order_wrong.true)

pub returned_wrong-requires : goal.returned_wrong-requires
unfolding returned_length_wrong
returned_wrong-requires c = (omega (arith, c.requires.events), returned-length _ c.args.returned.now _ (rw (order-length-wrong _ _ _ c.total.ensures, c.from.ensures) at c.if-order-total.false))

pub returns-then-returned_wrong : goal.returns-then-returned_wrong
unfolding returned_length_wrong
returns-then-returned_wrong c = judge-14 _ _ _ (rw (order-length-wrong _ _ _ c.total.ensures, c.from.ensures) at c.if-order-total.false) (sym c.order_wrong.ensures ∙ c.if-order_wrong.false) (sym c.returned_wrong.ensures ∙ c.if-returned_wrong.true)

pub judge-requires : goal.judge-requires
unfolding returned_length_wrong
judge-requires c = (omega (arith, c.requires.events), c.requires.locations, returned-length _ c.args.returned.now _ (rw (order-length-wrong _ _ _ c.total.ensures, c.from.ensures) at c.if-order-total.false))

pub returns : goal.returns
unfolding returned_length_wrong
returns c = judge-none _ _ _ (rw (order-length-wrong _ _ _ c.total.ensures, c.from.ensures) at c.if-order-total.false) (sym c.order_wrong.ensures ∙ c.if-order_wrong.false) (sym c.returned_wrong.ensures ∙ c.if-returned_wrong.false) _ (ap answered c.judge.ensures)
