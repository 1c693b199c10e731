use Rattle.lists.proofs.BoolLaws.{and-taken, and_left}
use Rattle.model.specs.Axioms.{breaks_final_value}
use Rattle.stated_values.proofs.breaks_final_value.Goals as goal

pub returns-then-has : goal.returns-then-has
unfolding breaks_final_value
returns-then-has c = rw c.final_value.ensures
    (and-taken _ _ (rw c.has.ensures at c.if-has.true))

pub returns-else-has : goal.returns-else-has
unfolding breaks_final_value
returns-else-has c = and_left _ _ (rw c.has.ensures at c.if-has.false)
