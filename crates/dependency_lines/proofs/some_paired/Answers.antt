use Rattle.table.specs.Events.{same_location, location, event}
use Rattle.refusals.specs.TableLines.{paired_here}
use mathlib.Core.Path.{sym}
use native.Mathlib.Omega.{arith}
use Rattle.lists.proofs.ScanLaws.{scan-start, scan-more, some-hit, some_end}
use Rattle.dependency_lines.proofs.some_paired.Goals as goal

pub loop-l-init : goal.loop-l-init
loop-l-init c = scan-start _ _

pub returns-then-paired-same_location : goal.returns-then-paired-same_location
unfolding paired_here same_location location event
returns-then-paired-same_location c = sym (some-hit _ _ _ c.loop-l.invariant (omega arith) (rw (c.paired.ensures, c.same_location.ensures, c.from.ensures, c.from-in-loop-l.ensures) at c.if-paired-same_location.true))

pub loop-l-preserved : goal.loop-l-preserved
unfolding paired_here same_location location event
loop-l-preserved c = scan-more _ _ _ c.loop-l.invariant (omega arith) (rw (c.paired.ensures, c.same_location.ensures, c.from.ensures, c.from-in-loop-l.ensures) at c.if-paired-same_location.false)

pub returns : goal.returns
returns c = sym (some_end _ _ _ c.loop-l.invariant (omega arith))
