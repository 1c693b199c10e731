use mathlib.Core.Path.{refl, sym, ◌∙◌}
use native.Mathlib.Omega.{arith}
use Rattle.lists.proofs.ScanLaws.{scan-start, scan-more, scan-hit, scan-end}
use borrow.Author.Tests.{ne_eqb}
use Rattle.table.specs.Events.{kind, event}
use Rattle.refusals.specs.TableLines.{line10}
use Rattle.table_lines.proofs.lowest10.Goals as goal

pub loop-k-init : goal.loop-k-init
loop-k-init c = scan-start _ _

pub loop-k-preserved-then-t-from-ne-SC : goal.loop-k-preserved-then-t-from-ne-SC
unfolding line10 kind event
loop-k-preserved-then-t-from-ne-SC c = scan-more _ _ _ c.loop-k.invariant (omega arith) (rw (ne_eqb _ _ (rw c.from.ensures at c.if-t-from-ne-SC.true)) refl)

pub returns-then-line10 : goal.returns-then-line10
returns-then-line10 c = (omega arith, sym (scan-hit _ _ _ c.loop-k.invariant (omega arith) (sym c.line10.ensures ∙ c.if-line10.true)))

pub loop-k-preserved : goal.loop-k-preserved
loop-k-preserved c = scan-more _ _ _ c.loop-k.invariant (omega arith) (sym c.line10.ensures ∙ c.if-line10.false)

pub returns : goal.returns
returns c = (scan-end _ _ _ c.loop-k.invariant (omega arith))
