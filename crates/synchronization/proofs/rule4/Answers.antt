use Prim.Native.Nat.{◌-◌}
use mathlib.Core.Path.{sym}
use native.Mathlib.Omega.{arith}
use Rattle.lists.proofs.ScanLaws.{scan-start, scan-more, some-hit, some_end}
use Rattle.model.specs.Rules.{rule4, fence_orders, tso_orders}
use Rattle.synchronization.specs.Between.{separates}
use Rattle.table.proofs.EventTests.{of_events}
use Rattle.synchronization.proofs.rule4.Goals as goal

pub loop-m-init : goal.loop-m-init
loop-m-init c = scan-start _ _

pub returns-then-between-fence_orders : goal.returns-then-between-fence_orders
unfolding rule4 separates fence_orders tso_orders of_events
returns-then-between-fence_orders c = sym (some-hit _ _ _ c.loop-m.invariant (omega arith)
    (rw (c.between.ensures, c.fence_orders.ensures, c.tso_orders.ensures) at c.if-between-fence_orders.true))

pub loop-m-preserved : goal.loop-m-preserved
unfolding separates fence_orders tso_orders of_events
loop-m-preserved c = scan-more _ _ _ c.loop-m.invariant (omega arith)
    (rw (c.between.ensures, c.fence_orders.ensures, c.tso_orders.ensures) at c.if-between-fence_orders.false)

pub returns : goal.returns
unfolding rule4 separates
returns c = sym (some_end _ _ _ c.loop-m.invariant (omega arith))
