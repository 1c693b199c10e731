use Rattle.state_test.proofs.DisturbLaws.{lack-none, lack-some}
use Rattle.state_test.proofs.lacking.Goals as goal

pub returns-then-missing-eq0 : goal.returns-then-missing-eq0
returns-then-missing-eq0 c = lack-none _ _ _ _ c.less-missing.ensures c.if-missing-eq0.true

pub returns : goal.returns
returns c = lack-some _ _ _ _ _ _ c.less-missing.ensures c.if-missing-eq0.false c.highest_set.ensures
    c.less.ensures
