use mathlib.Core.Path.{sym, ap, ◌∙◌}
use mathlib.Core.Bool.{not}
use native.Mathlib.Omega.{arith}
use Rattle.lists.proofs.ScanLaws.{scan-start, scan-more, some-hit, some_end}
use Rattle.steps.proofs.atomic.Goals as goal

pub loop-l-init : goal.loop-l-init
loop-l-init c = scan-start _ _

pub returns-then-breaks_pair : goal.returns-then-breaks_pair
returns-then-breaks_pair c = let v = c.loop-l in
    sym (ap not (some-hit _ _ _ v.invariant (omega arith) (sym c.breaks_pair.ensures ∙ c.if-breaks_pair.true)))

pub loop-l-preserved : goal.loop-l-preserved
loop-l-preserved c = let v = c.loop-l in
    scan-more _ _ _ v.invariant (omega arith) (sym c.breaks_pair.ensures ∙ c.if-breaks_pair.false)

pub returns : goal.returns
returns c = sym (ap not (some_end _ _ _ c.loop-l.invariant (omega arith)))
