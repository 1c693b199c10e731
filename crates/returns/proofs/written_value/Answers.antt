use mathlib.Core.Path.{ap}
use borrow.Author.Tests.{eq-eqb, ne_eqb}
use Rattle.table.specs.declared.Event.{Event}
use Rattle.model.specs.Returns.{written_value}
use Rattle.returns.proofs.written_value.Goals as goal

pub returns-then-w-eq-INITIALLY : goal.returns-then-w-eq-INITIALLY
unfolding written_value
returns-then-w-eq-INITIALLY c = rw (eq-eqb _ _ c.if-w-eq-INITIALLY.true) c.initial_value.ensures

pub returns-else-w-eq-INITIALLY : goal.returns-else-w-eq-INITIALLY
unfolding written_value
returns-else-w-eq-INITIALLY c = rw (ne_eqb _ _ c.if-w-eq-INITIALLY.false) (ap (λ (e : Event). e.written) c.event_of.ensures)
