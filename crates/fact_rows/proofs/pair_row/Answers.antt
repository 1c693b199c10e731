use mathlib.Core.Path.{refl}
use Rattle.fact_rows.proofs.AroundLaws.{pair-other, pair-none, pair-nearest}
use Rattle.fact_rows.proofs.pair_row.Goals as goal

pub returns-then-x-ne-SC : goal.returns-then-x-ne-SC
returns-then-x-ne-SC c = pair-other _ _ _ c.if-x-ne-SC.true

pub returns-then-before-eq0 : goal.returns-then-before-eq0
returns-then-before-eq0 c = pair-none _ c.if-x-ne-SC.false _ _ _ _ c.under.ensures refl c.if-before-eq0.true

pub returns : goal.returns
returns c = pair-nearest _ c.if-x-ne-SC.false _ _ _ _ c.under.ensures refl c.if-before-eq0.false _ _ _
    c.highest_set.ensures c.one.ensures refl
