use mathlib.Core.Path.{refl, sym, ◌∙◌}
use Rattle.fact_rows.proofs.AroundLaws.{own-some, own-none}
use Rattle.fact_rows.proofs.own_row.Goals as goal

pub returns-then-reads : goal.returns-then-reads
returns-then-reads c = own-some _ _ _ (sym c.reads.ensures ∙ c.if-reads.true)
    c.under.ensures refl

pub returns-else-reads : goal.returns-else-reads
returns-else-reads c = own-none _ (sym c.reads.ensures ∙ c.if-reads.false)
