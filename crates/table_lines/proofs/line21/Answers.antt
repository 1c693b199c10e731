use mathlib.Core.Path.{sym, ap, ◌∙◌}
use mathlib.Core.Bool.{not}
use native.Mathlib.Omega.{arith}
use Rattle.lists.proofs.ScanLaws.{scan-start, scan-more, some-hit, some_end}
use Rattle.refusals.specs.TableLines.{line21}
use Rattle.table_lines.proofs.UsedLaws.{unused-at}
use Rattle.table_lines.proofs.line21.Goals as goal

pub loop-x-init : goal.loop-x-init
loop-x-init c = scan-start _ _

pub returns-then-not-has : goal.returns-then-not-has
unfolding line21
returns-then-not-has c = sym (some-hit _ _ _ c.loop-x.invariant (omega arith) (sym (unused-at _ _ _ c.touched.ensures _) ∙ ap not (rw (c.has.ensures, c.from.ensures) at c.if-not-has.true)))

pub loop-x-preserved : goal.loop-x-preserved
loop-x-preserved c = scan-more _ _ _ c.loop-x.invariant (omega arith) (sym (unused-at _ _ _ c.touched.ensures _) ∙ ap not (rw (c.has.ensures, c.from.ensures) at c.if-not-has.false))

pub returns : goal.returns
unfolding line21
returns c = sym (some_end _ _ _ c.loop-x.invariant (omega arith))
