use Rattle.state_test.proofs.AcceptLaws.{reads-asked, reads-passed}
use Rattle.state_test.proofs.reads_well.Goals as goal

pub returns-then-not-has : goal.returns-then-not-has
returns-then-not-has c =
    rw c.if-not-has.true (reads-passed _ _ c.args.s _ _ (rw c.from.ensures at c.has.ensures) c.if-not-has.true)

pub returns-else-not-has : goal.returns-else-not-has
returns-else-not-has c =
    reads-asked _ _ c.args.s _ _ _ (rw c.from.ensures at c.has.ensures) c.if-not-has.false c.reads_stated.ensures
