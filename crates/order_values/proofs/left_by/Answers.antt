use mathlib.Core.Path.{sym, ◌∙◌}
use Rattle.order_values.proofs.AlongLaws.{by-plain, by-operation}
use Rattle.order_values.proofs.left_by.Goals as goal

pub returns-then-action-from : goal.returns-then-action-from
returns-then-action-from c = by-plain _ _ _ _ (c.if-action-from.true ∙ c.from.ensures)

pub returns : goal.returns
returns c = by-operation _ _ _ _ (λ e. c.if-action-from.false (e ∙ sym c.from.ensures)) _ _ _ c.place-x.ensures.0 c.last_left-told.ensures.value_value
    c.written.ensures
