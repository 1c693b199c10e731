use Rattle.state_test.proofs.OpeningLaws.{opening-is}
use Rattle.state_test.proofs.opening.Goals as goal

pub returns : goal.returns
returns c t b = opening-is b _ _ _ _ _ c.less.ensures c.union-guards.ensures
    c.less-2.ensures c.union.ensures
