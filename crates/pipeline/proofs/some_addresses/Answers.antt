use Prim.Native.Nat.{◌-◌}
use mathlib.Core.Path.{sym}
use native.Mathlib.Omega.{arith}
use Rattle.lists.proofs.ScanLaws.{scan-start, scan-more, some-hit, some_end}
use Rattle.pipeline.specs.Between.{addresses}
use Rattle.table.proofs.EventTests.{of_events}
use Rattle.pipeline.proofs.some_addresses.Goals as goal

pub loop-m-init : goal.loop-m-init
loop-m-init c = scan-start _ _

pub returns-then-between-memory : goal.returns-then-between-memory
unfolding addresses of_events
returns-then-between-memory c = sym (some-hit _ _ _ c.loop-m.invariant (omega arith)
    (rw (c.between.ensures, c.memory.ensures, c.rule9.ensures) at c.if-between-memory.true))

pub loop-m-preserved : goal.loop-m-preserved
unfolding addresses of_events
loop-m-preserved c = scan-more _ _ _ c.loop-m.invariant (omega arith)
    (rw (c.between.ensures, c.memory.ensures, c.rule9.ensures) at c.if-between-memory.false)

pub returns : goal.returns
returns c = sym (some_end _ _ _ c.loop-m.invariant (omega arith))
