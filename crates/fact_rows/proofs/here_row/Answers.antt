use mathlib.Core.Path.{refl, sym, ◌∙◌}
use Rattle.fact_rows.proofs.AroundLaws.{here-some, here-none}
use Rattle.fact_rows.proofs.here_row.Goals as goal

pub returns-then-writes : goal.returns-then-writes
returns-then-writes c = here-some _ _ (sym c.writes.ensures ∙ c.if-writes.true) refl

pub returns-else-writes : goal.returns-else-writes
returns-else-writes c = here-none _ (sym c.writes.ensures ∙ c.if-writes.false)
