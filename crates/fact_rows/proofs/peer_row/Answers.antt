use mathlib.Core.Path.{sym, ◌∙◌}
use Rattle.fact_rows.proofs.AroundLaws.{peer-some, peer-none}
use Rattle.fact_rows.proofs.peer_row.Goals as goal

pub returns-then-writes : goal.returns-then-writes
returns-then-writes c = peer-some _ _ _ (sym c.writes.ensures ∙ c.if-writes.true)
    c.one.ensures c.less.ensures

pub returns-else-writes : goal.returns-else-writes
returns-else-writes c = peer-none _ (sym c.writes.ensures ∙ c.if-writes.false)
