use Rattle.refusals.specs.TableLines.{initial_not_zero}
use mathlib.Core.Path.{sym}
use native.Mathlib.Omega.{arith}
use Rattle.lists.proofs.ScanLaws.{scan-start, scan-more, some-hit, some_end}
use Rattle.whole_lines.proofs.initial_not_zero.Goals as goal

pub loop-x-init : goal.loop-x-init
loop-x-init c = scan-start _ _

pub returns-then-from-x : goal.returns-then-from-x
unfolding initial_not_zero
returns-then-from-x c = sym (some-hit _ _ _ c.loop-x.invariant (omega arith) (rw c.from.ensures at c.if-from-x.true))

pub loop-x-preserved : goal.loop-x-preserved
unfolding initial_not_zero
loop-x-preserved c = scan-more _ _ _ c.loop-x.invariant (omega arith) (rw c.from.ensures at c.if-from-x.false)

pub returns : goal.returns
returns c = sym (some_end _ _ _ c.loop-x.invariant (omega arith))
