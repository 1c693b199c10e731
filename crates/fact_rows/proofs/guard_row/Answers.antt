use mathlib.Core.Path.{refl, sym, ◌∙◌}
use Rattle.fact_rows.proofs.AroundLaws.{guard-some, guard_none}
use Rattle.fact_rows.proofs.guard_row.Goals as goal

pub returns-then-writes : goal.returns-then-writes
returns-then-writes c = guard-some _ _ _ _ (sym c.writes.ensures ∙ c.if-writes.true) c.less.ensures refl

pub returns-else-writes : goal.returns-else-writes
returns-else-writes c = guard_none _ _ (sym c.writes.ensures ∙ c.if-writes.false)
