use Rattle.refusals.specs.TableLines.{final_not_zero}
use mathlib.Core.Path.{sym}
use native.Mathlib.Omega.{arith}
use Rattle.lists.proofs.ScanLaws.{scan-start, scan-more, some-hit, some_end}
use Rattle.whole_lines.proofs.final_not_zero.Goals as goal

pub loop-x-init : goal.loop-x-init
loop-x-init c = scan-start _ _

pub returns-then-has-finals : goal.returns-then-has-finals
unfolding final_not_zero
returns-then-has-finals c = sym (some-hit _ _ _ c.loop-x.invariant (omega arith) (rw (c.has.ensures, c.from.ensures, c.from-in-loop-x.ensures, c.from-in-loop-x-2.ensures) at c.if-has-finals.true))

pub loop-x-preserved : goal.loop-x-preserved
unfolding final_not_zero
loop-x-preserved c = scan-more _ _ _ c.loop-x.invariant (omega arith) (rw (c.has.ensures, c.from.ensures, c.from-in-loop-x.ensures, c.from-in-loop-x-2.ensures) at c.if-has-finals.false)

pub returns : goal.returns
returns c = sym (some_end _ _ _ c.loop-x.invariant (omega arith))
