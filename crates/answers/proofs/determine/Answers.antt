use mathlib.Core.Path.{ap, sym, ◌∙◌}
use mathlib.Core.Bool.{not}
use borrow.Author.Tests.{eq-eqb, ne_eqb}
use Rattle.answers.proofs.CandidateLaws.{determine-12, refused-13, left-13, determine-16, determine-none, order-length-wrong}
use borrow.Author.Rules.{rules}
use Rattle.answers.proofs.determine.Goals as goal

pub returns-then-order-total : goal.returns-then-order-total
returns-then-order-total c =
    let w = determine-12 c.args.t c.args.order.now c.args.out.now (sym (order-length-wrong _ _ _ c.total.ensures) ∙ ap not (ne_eqb _ _ c.if-order-total.true)) in
    record { result_value = w.0; out_after = w.1 }

pub returns-then-order_wrong : goal.returns-then-order_wrong
returns-then-order_wrong c = record { result_value = search (refused-13, rules); out_after = search (left-13, rules) }

pub returns-then-out-from : goal.returns-then-out-from
returns-then-out-from c =
    let w = determine-16 c.args.t c.args.order.now c.args.out.now (sym (order-length-wrong _ _ _ c.total.ensures) ∙ ap not (eq-eqb _ _ c.if-order-total.false)) (sym c.order_wrong.ensures ∙ c.if-order_wrong.false) (rw c.from.ensures at c.if-out-from.true) in
    record { result_value = w.0; out_after = w.1 }

pub returns : goal.returns
returns c =
    let w = determine-none c.args.t c.args.order.now c.args.out.now (sym (order-length-wrong _ _ _ c.total.ensures) ∙ ap not (eq-eqb _ _ c.if-order-total.false)) (sym c.order_wrong.ensures ∙ c.if-order_wrong.false) (rw c.from.ensures at c.if-out-from.false) _ c.determine.ensures in
    record { result_value = w.0; out_after = w.1 }
