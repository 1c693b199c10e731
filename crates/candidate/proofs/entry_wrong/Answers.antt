use mathlib.Core.Path.{sym, ◌∙◌}
use Rattle.table.specs.Events.{reads, kind, event}
use Rattle.candidate.proofs.entry_wrong.Goals as goal

pub returns-then-reads : goal.returns-then-reads
unfolding reads kind event
returns-then-reads c = rw (sym c.reads.ensures ∙ c.if-reads.true, c.writer_for.ensures)

pub returns-else-reads : goal.returns-else-reads
unfolding reads kind event
returns-else-reads c = rw (sym c.reads.ensures ∙ c.if-reads.false)
