use mathlib.Core.Path.{sym}
use native.Mathlib.Omega.{arith}
use Rattle.refusals.proofs.LineLaws.{whole_here, whole-next, record-here, record-next, none_here}
use Rattle.table_lines.proofs.MarkedLaws.{no-memory, some-memory}
use Rattle.table_lines.proofs.refuse_related.Goals as goal

pub returns-in-Some : goal.returns-in-Some
returns-in-Some c = record-here _ _ _ _ _ c.in-Some.ensures.1 c.in-Some.ensures.0

pub returns-in-Some-lowest10 : goal.returns-in-Some-lowest10
returns-in-Some-lowest10 c = record-next _ _ _ _ _ _ (sym c.in_default.ensures) (omega arith)
    (record-here _ _ _ _ _ c.in-Some-lowest10.ensures.1 c.in-Some-lowest10.ensures.0)

pub returns-then-memory-eq0 : goal.returns-then-memory-eq0
returns-then-memory-eq0 c = record-next _ _ _ _ _ _ (sym c.in_default.ensures) (omega arith)
    (record-next _ _ _ _ _ _ (sym c.in_default-lowest10.ensures) (omega arith)
    (whole_here _ _ _ _ (no-memory _ _ c.requires.1 c.if-memory-eq0.true)))

pub returns : goal.returns
returns c = record-next _ _ _ _ _ _ (sym c.in_default.ensures) (omega arith)
    (record-next _ _ _ _ _ _ (sym c.in_default-lowest10.ensures) (omega arith)
    (whole-next _ _ _ _ _ (some-memory _ _ c.requires.1 c.if-memory-eq0.false) (none_here _)))
