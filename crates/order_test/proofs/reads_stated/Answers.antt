use mathlib.Core.Path.{◌∙◌}
use Rattle.order_test.proofs.TellLaws.{tell-good-none, tell-good-some}
use Rattle.order_test.proofs.reads_stated.Goals as goal

pub returns-then-missing-eq0 : goal.returns-then-missing-eq0
returns-then-missing-eq0 c t f l = (rw c.from.ensures at c.has.ensures)
    ∙ tell-good-none _ _ _ _ _ c.less-missing.ensures c.if-missing-eq0.true t f l

pub returns : goal.returns
returns c t f l = (rw c.from-2.ensures at c.has-2.ensures)
    ∙ tell-good-some _ _ _ _ _ _ c.less-missing.ensures
    c.if-missing-eq0.false c.highest_set.ensures t f l
