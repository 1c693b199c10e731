use mathlib.Core.Path.{refl, sym, ◌∙◌}
use Rattle.outcome_values.proofs.note_write.Goals as goal

pub returns-then-has : goal.returns-then-has
returns-then-has c = rw (rw c.from.ensures at (sym c.has.ensures ∙ c.if-has.true)) refl

pub returns-else-has : goal.returns-else-has
returns-else-has c = rw (rw c.from.ensures at (sym c.has.ensures ∙ c.if-has.false)) refl
