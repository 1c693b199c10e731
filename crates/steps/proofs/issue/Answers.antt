use native.Mathlib.Omega.{arith}
use mathlib.Core.Path.{sym, ◌∙◌}
use lib.Seq.{length-take-le}
use Rattle.table.proofs.EventTests.{of_events}
use Rattle.steps.proofs.HoldLaws.{returned-is, issue-enters, issue-performs, issue-refused}
use Rattle.steps.proofs.issue.Goals as goal

pub returns-then-not-reads : goal.returns-then-not-reads
unfolding of_events
returns-then-not-reads c s r n h = issue-enters _ _ _ _ s h c.requires.2 c.args.e.0 c.requires.1 _ _ _ r n
    (sym c.reads.ensures ∙ c.if-not-reads.true) c.one-bit.ensures c.less-left.ensures
    (rw c.writes.ensures at c.mask_if.ensures)

pub returns-then-not-may_read : goal.returns-then-not-may_read
unfolding of_events
returns-then-not-may_read c s r n h = issue-refused _ _ _ _ s h c.requires.2 c.args.e.0 c.requires.1 _ (sym c.reads.ensures ∙ c.if-not-reads.false)
    (sym (c.may_read.ensures s h.held) ∙ c.if-not-may_read.true) (c.newest-w.ensures.newest s h.held)

pub slice_bounds-returned-end-2 : goal.slice_bounds-returned-end-2
slice_bounds-returned-end-2 c = sym (length-take-le c.args.done.len c.args.order.now (omega (arith, c.requires.2.more, c.requires.2.long)))

pub returns : goal.returns
unfolding of_events
returns c s r n h = let w = c.newest-w.ensures.newest s h.held in
    issue-performs _ _ _ _ s h c.requires.2 c.args.e.0 c.requires.1 _ _ _ _
    (sym c.reads.ensures ∙ c.if-not-reads.false)
    (sym (c.may_read.ensures s h.held) ∙ c.if-not-may_read.false) w
    c.one-bit.ensures c.less-left.ensures
    (returned-is _ _ _ _ s h c.args.e.0 _ _ w c.returned.ensures)
