use mathlib.Core.Path.{sym}
use native.Mathlib.Omega.{arith}
use Rattle.lists.proofs.ScanLaws.{scan-start, scan-more, some-hit, some_end}
use Rattle.table.specs.Events.{reserves, between, po, hart, kind, event}
use Rattle.table.proofs.some_reserves.Goals as goal

pub loop-m-init : goal.loop-m-init
loop-m-init c = scan-start _ _

pub returns-then-between-z : goal.returns-then-between-z
unfolding reserves between po hart kind event
returns-then-between-z c = sym (some-hit _ _ _ c.loop-m.invariant (omega arith) (rw (c.between.ensures, c.from.ensures, c.from-2.ensures, c.from-in-loop-m.ensures) at c.if-between-z.true))

pub loop-m-preserved : goal.loop-m-preserved
unfolding reserves between po hart kind event
loop-m-preserved c = scan-more _ _ _ c.loop-m.invariant (omega arith) (rw (c.between.ensures, c.from.ensures, c.from-2.ensures, c.from-in-loop-m.ensures) at c.if-between-z.false)

pub returns : goal.returns
returns c = sym (some_end _ _ _ c.loop-m.invariant (omega arith))
