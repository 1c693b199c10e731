use mathlib.Core.Path.{sym, ◌∙◌}
use Rattle.table.specs.Events.{reads, kind, event}
use Rattle.model.specs.Returns.{return_entry}
use Rattle.returns.proofs.return_entry.Goals as goal

pub returns-then-reads : goal.returns-then-reads
unfolding return_entry reads kind event
returns-then-reads c = rw (sym c.reads.ensures ∙ c.if-reads.true) c.return_of.ensures

pub returns-else-reads : goal.returns-else-reads
unfolding return_entry reads kind event
returns-else-reads c = rw (sym c.reads.ensures ∙ c.if-reads.false)
