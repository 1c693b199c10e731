use Rattle.table.specs.Events.{po, hart, memory, reads, writes, kind, event}
use Rattle.refusals.specs.TableLines.{lacks_control}
use mathlib.Core.Path.{sym}
use native.Mathlib.Omega.{arith}
use Rattle.lists.proofs.ScanLaws.{scan-start, scan-more, some-hit, some_end}
use Rattle.lists.proofs.SomeLaws.{some-none}
use Rattle.dependency_lines.proofs.DependencyLaws.{lacks-none}
use Rattle.dependency_lines.proofs.some_lacks_control.Goals as goal

pub returns-then-e-eq0 : goal.returns-then-e-eq0
unfolding event
returns-then-e-eq0 c = sym (some-none _ _ (λ j l. lacks-none _ _ j (rw c.from.ensures at c.if-e-eq0.true)))

pub loop-j-init : goal.loop-j-init
loop-j-init c = scan-start _ _

pub returns-then-program_order-memory : goal.returns-then-program_order-memory
unfolding lacks_control po hart memory reads writes kind event
returns-then-program_order-memory c = sym (some-hit _ _ _ c.loop-j.invariant (omega arith) (rw (c.program_order.ensures, c.memory.ensures, c.lacks.ensures, c.from.ensures, c.from-in-loop-j.ensures) at c.if-program_order-memory.true))

pub loop-j-preserved : goal.loop-j-preserved
unfolding lacks_control po hart memory reads writes kind event
loop-j-preserved c = scan-more _ _ _ c.loop-j.invariant (omega arith) (rw (c.program_order.ensures, c.memory.ensures, c.lacks.ensures, c.from.ensures, c.from-in-loop-j.ensures) at c.if-program_order-memory.false)

pub returns : goal.returns
returns c = sym (some_end _ _ _ c.loop-j.invariant (omega arith))
