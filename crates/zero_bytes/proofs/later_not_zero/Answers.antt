use mathlib.Core.Path.{sym, ◌∙◌}
use native.Mathlib.Omega.{arith}
use Rattle.lists.proofs.ScanLaws.{scan-start, scan-more, some-hit, some_end}
use Rattle.zero_bytes.proofs.later_not_zero.Goals as goal

pub loop-b-init : goal.loop-b-init
loop-b-init c = scan-start _ _

pub returns-then-some_not_zero : goal.returns-then-some_not_zero
returns-then-some_not_zero c = let v = c.loop-b in
    sym (some-hit _ _ v.b v.invariant (omega arith) (sym c.some_not_zero.ensures ∙ c.if-some_not_zero.true))

pub loop-b-preserved : goal.loop-b-preserved
loop-b-preserved c = let v = c.loop-b in
    scan-more _ _ v.b v.invariant (omega arith) (sym c.some_not_zero.ensures ∙ c.if-some_not_zero.false)

pub returns : goal.returns
returns c = sym (some_end _ _ _ c.loop-b.invariant (omega arith))
