use Rattle.refusals.specs.TableLines.{missing, states_missing}
use mathlib.Core.Path.{sym}
use native.Mathlib.Omega.{arith}
use Rattle.lists.proofs.ScanLaws.{scan-start, scan-more, some-hit, some_end}
use Rattle.whole_lines.proofs.states_missing.Goals as goal

pub loop-x-init : goal.loop-x-init
loop-x-init c = scan-start _ _

pub returns-then-has-locations : goal.returns-then-has-locations
unfolding missing states_missing
returns-then-has-locations c = sym (some-hit _ _ _ c.loop-x.invariant (omega arith) (rw (c.has.ensures, c.from.ensures, c.from-in-loop-x.ensures) at c.if-has-locations.true))

pub loop-x-preserved : goal.loop-x-preserved
unfolding missing states_missing
loop-x-preserved c = scan-more _ _ _ c.loop-x.invariant (omega arith) (rw (c.has.ensures, c.from.ensures, c.from-in-loop-x.ensures) at c.if-has-locations.false)

pub returns : goal.returns
unfolding states_missing
returns c = sym (some_end _ _ _ c.loop-x.invariant (omega arith))
