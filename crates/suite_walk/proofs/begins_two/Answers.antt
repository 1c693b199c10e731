use Rattle.suite_walk.proofs.TestLaws.{begins-other, begins-as}
use Rattle.suite_walk.proofs.begins_two.Goals as goal

pub returns-then-first-ne-NUMBER : goal.returns-then-first-ne-NUMBER
returns-then-first-ne-NUMBER c = begins-other _ c.if-first-ne-NUMBER.true

pub returns : goal.returns
returns c = begins-as _ _ _ c.if-first-ne-NUMBER.false c.check_wrong.ensures c.marker_wrong.ensures
