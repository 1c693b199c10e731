use mathlib.Core.Path.{◌∙◌}
use Rattle.state_test.proofs.DisturbLaws.{kept-waits, kept-ready}
use Rattle.state_test.proofs.is_kept.Goals as goal

pub returns-then-awaited-ne0 : goal.returns-then-awaited-ne0
returns-then-awaited-ne0 c t b l = kept-waits b _ _ l _ _ c.less-awaited.ensures c.if-awaited-ne0.true

pub returns : goal.returns
returns c t b l = c.within.ensures ∙ kept-ready b _ _ l _ _ _ c.less-awaited.ensures c.if-awaited-ne0.false (c.disturbers.ensures t b l)
