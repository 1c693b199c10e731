use mathlib.Core.Path.{sym, ◌∙◌}
use native.Mathlib.Omega.{arith}
use Rattle.lists.proofs.ScanLaws.{scan-start, scan-more, scan-hit, scan-end}
use Rattle.table.specs.Events.{event}
use Rattle.dependency_lines.proofs.DependencyLaws.{none-wrong}
use Rattle.table_lines.proofs.lowest9.Goals as goal

pub loop-k-init : goal.loop-k-init
loop-k-init c = scan-start _ _

pub loop-k-preserved-then-depends_on_none : goal.loop-k-preserved-then-depends_on_none
unfolding event
loop-k-preserved-then-depends_on_none c = scan-more _ _ _ c.loop-k.invariant (omega arith) (rw c.from.ensures at (none-wrong c.args.t c.from.result (sym c.depends_on_none.ensures ∙ c.if-depends_on_none.true)))

pub returns-then-line9 : goal.returns-then-line9
returns-then-line9 c = (omega arith, sym (scan-hit _ _ _ c.loop-k.invariant (omega arith) (sym c.line9.ensures ∙ c.if-line9.true)))

pub loop-k-preserved : goal.loop-k-preserved
loop-k-preserved c = scan-more _ _ _ c.loop-k.invariant (omega arith) (sym c.line9.ensures ∙ c.if-line9.false)

pub returns : goal.returns
returns c = (scan-end _ _ _ c.loop-k.invariant (omega arith))
