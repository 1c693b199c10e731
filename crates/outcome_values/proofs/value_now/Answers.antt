use lib.ListN.{get_or}
use Rattle.outcome_values.proofs.AlongLaws.{now-here, now-forwarded}
use Rattle.outcome_values.proofs.value_now.Goals as goal

pub returns-then-missing-eq0 : goal.returns-then-missing-eq0
returns-then-missing-eq0 c = let a = c.args in
    now-here a.facts.now a.left.now a.placed a.e _ _ c.less-missing.ensures c.if-missing-eq0.true

pub returns : goal.returns
returns c = let a = c.args in
    now-forwarded a.facts.now a.left.now a.placed a.e (get_or a.at.now a.x 0) _
    c.less-missing.ensures c.if-missing-eq0.false _ c.highest_set.ensures
