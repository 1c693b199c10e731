use Rattle.table.specs.Events.{memory, reads, writes, kind, event}
use mathlib.Core.Path.{sym}
use native.Mathlib.Omega.{arith}
use Rattle.lists.proofs.ScanLaws.{scan-start, scan-more, some-hit, some_end}
use Rattle.candidate.proofs.some_not_once.Goals as goal

pub loop-e-init : goal.loop-e-init
loop-e-init c = scan-start _ _

pub returns-then-memory-count_of : goal.returns-then-memory-count_of
unfolding memory reads writes kind event
returns-then-memory-count_of c = sym (some-hit _ _ _ c.loop-e.invariant (omega arith) (rw (c.memory.ensures, c.count_of.ensures) at c.if-memory-count_of.true))

pub loop-e-preserved : goal.loop-e-preserved
unfolding memory reads writes kind event
loop-e-preserved c = scan-more _ _ _ c.loop-e.invariant (omega arith) (rw (c.memory.ensures, c.count_of.ensures) at c.if-memory-count_of.false)

pub returns : goal.returns
returns c = sym (some_end _ _ _ c.loop-e.invariant (omega arith))
