use mathlib.Core.Bool.{not}
use mathlib.Core.Path.{ap, ◌∙◌}
use Rattle.overlap.proofs.OverlapLaws.{rule2-taken, rule2-left}
use Rattle.table.proofs.EventTests.{of_events}
use Rattle.overlap.proofs.rule2.Goals as goal

pub returns-then-reads-same_location : goal.returns-then-reads-same_location
unfolding of_events
returns-then-reads-same_location c = ap not c.some_overwrites.ensures
    ∙ rule2-taken _ _ _ _
    (rw (c.returned_from.ensures, c.returned_from-2.ensures, c.reads.ensures, c.reads-2.ensures, c.same_location.ensures)
    at c.if-reads-same_location.true)

pub returns-else-reads-same_location : goal.returns-else-reads-same_location
unfolding of_events
returns-else-reads-same_location c = rule2-left _ _ _ _
    (rw (c.returned_from.ensures, c.returned_from-2.ensures, c.reads.ensures, c.reads-2.ensures, c.same_location.ensures)
    at c.if-reads-same_location.false)
