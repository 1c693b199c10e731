use Prim.Native.Nat.{◌-◌}
use mathlib.Core.Path.{sym}
use native.Mathlib.Omega.{arith}
use Rattle.lists.proofs.ScanLaws.{scan-start, scan-more, some-hit, some_end}
use Rattle.overlap.specs.Between.{overwrites}
use Rattle.table.proofs.EventTests.{of_events}
use Rattle.overlap.proofs.some_overwrites.Goals as goal

pub loop-m-init : goal.loop-m-init
loop-m-init c = scan-start _ _

pub returns-then-between-writes : goal.returns-then-between-writes
unfolding overwrites of_events
returns-then-between-writes c = sym (some-hit _ _ _ c.loop-m.invariant (omega arith)
    (rw (c.between.ensures, c.writes.ensures, c.same_location.ensures) at c.if-between-writes.true))

pub loop-m-preserved : goal.loop-m-preserved
unfolding overwrites of_events
loop-m-preserved c = scan-more _ _ _ c.loop-m.invariant (omega arith)
    (rw (c.between.ensures, c.writes.ensures, c.same_location.ensures) at c.if-between-writes.false)

pub returns : goal.returns
returns c = sym (some_end _ _ _ c.loop-m.invariant (omega arith))
