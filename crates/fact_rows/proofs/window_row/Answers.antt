use mathlib.Core.Path.{refl, sym, ◌∙◌}
use Rattle.fact_rows.proofs.AroundLaws.{window-writer, window-other}
use Rattle.fact_rows.proofs.window_row.Goals as goal

pub returns-then-writes : goal.returns-then-writes
returns-then-writes c = window-writer _ _ _ _ (sym c.writes.ensures ∙ c.if-writes.true) refl
    c.pair_row.ensures

pub returns-else-writes : goal.returns-else-writes
returns-else-writes c = window-other _ _ _ (sym c.writes.ensures ∙ c.if-writes.false) c.reread_row.ensures
