use mathlib.Core.Path.{refl}
use borrow.Author.Tests.{eq-eqb, ne_eqb}
use Rattle.witness_walk.proofs.note_good.Goals as goal

pub returns-then-watched-ne0 : goal.returns-then-watched-ne0
returns-then-watched-ne0 c = rw (ne_eqb _ 0 c.if-watched-ne0.true, c.good_after.ensures) refl

pub returns-else-watched-ne0 : goal.returns-else-watched-ne0
returns-else-watched-ne0 c = rw (eq-eqb _ 0 c.if-watched-ne0.false) refl
