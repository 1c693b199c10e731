use mathlib.Core.Path.{◌≡◌, ap, ◌∙◌}
use mathlib.Core.Bool.{true, false, not}
use borrow.Author.Tests.{eq-eqb, ne_eqb}
use lib.Dec.{eqb}
use Rattle.lists.proofs.BoolLaws.{and-taken, and_left}
use Rattle.table.specs.Events.{kind, event, sc}
use Rattle.refusals.specs.TableLines.{line10}
use Rattle.dependency_lines.proofs.line10.Goals as goal

pub returns-then-t-from-eq-SC : goal.returns-then-t-from-eq-SC
unfolding line10 kind event
returns-then-t-from-eq-SC c = let v = c.args in
    let e : eqb (kind v.t v.k.0) sc ≡ true = eq-eqb _ _ (rw c.from.ensures at c.if-t-from-eq-SC.true) in
    ap not c.some_paired.ensures ∙ and-taken _ _ e

pub returns-else-t-from-eq-SC : goal.returns-else-t-from-eq-SC
unfolding line10 kind event
returns-else-t-from-eq-SC c = let v = c.args in
    let e : eqb (kind v.t v.k.0) sc ≡ false = ne_eqb _ _ (rw c.from.ensures at c.if-t-from-eq-SC.false) in
    and_left _ _ e
