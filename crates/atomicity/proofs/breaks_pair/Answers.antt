use Rattle.lists.proofs.BoolLaws.{and-taken, and_left}
use Rattle.model.specs.Axioms.{breaks_pair}
use Rattle.atomicity.proofs.LowestLaws.{found-some}
use Rattle.atomicity.proofs.breaks_pair.Goals as goal

pub returns-then-paired : goal.returns-then-paired
unfolding breaks_pair
returns-then-paired c = rw (c.write_is_late.ensures, c.is_some.ensures, found-some _ _ _ c.lowest_intruder.ensures)
    (and-taken _ _ (rw c.paired.ensures at c.if-paired.true))

pub returns-else-paired : goal.returns-else-paired
unfolding breaks_pair
returns-else-paired c = and_left _ _ (rw c.paired.ensures at c.if-paired.false)
