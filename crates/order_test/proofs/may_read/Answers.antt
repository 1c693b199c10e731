use mathlib.Core.Path.{◌∙◌}
use Rattle.order_test.proofs.TellLaws.{tell-read-none, tell-read-some}
use Rattle.order_test.proofs.may_read.Goals as goal

pub returns-then-missing-eq0 : goal.returns-then-missing-eq0
returns-then-missing-eq0 c = tell-read-none _ _ _ _ c.less-missing.ensures c.if-missing-eq0.true

pub returns : goal.returns
returns c t f l = c.within.ensures
    ∙ tell-read-some _ _ _ _ _ c.less-missing.ensures
    c.if-missing-eq0.false c.highest_set.ensures t f l
