use Rattle.table.specs.Events.{same_location}
use Rattle.lists.proofs.BoolLaws.{and-taken3}
use borrow.Author.Tests.{lt-ltb, le-ltb}
use Rattle.table.specs.Events.{writes, kind, same_location, location, event}
use Rattle.candidate.specs.CandidateLines.{writer_for}
use Rattle.candidate.proofs.writer_for.Goals as goal

pub returns-then-w-t : goal.returns-then-w-t
unfolding writer_for writes kind same_location location event
returns-then-w-t c = rw (c.writes.ensures, c.same_location.ensures) (and-taken3 _ _ _ (lt-ltb _ _ c.if-w-t.true))

pub returns : goal.returns
unfolding writer_for
returns c = rw (le-ltb _ _ c.if-w-t.false)
