use mathlib.Core.Path.{refl, sym, ◌∙◌}
use Rattle.order_test.proofs.TellLaws.{tell-stated}
use Rattle.witness_walk.proofs.enters.Goals as goal

pub returns-then-not-has : goal.returns-then-not-has
returns-then-not-has c = rw (rw c.from.ensures at (sym c.has.ensures ∙ c.if-not-has.true), c.if-not-has.true) refl

pub returns-else-not-has : goal.returns-else-not-has
returns-else-not-has c =
    rw (rw c.from.ensures at (sym c.has.ensures ∙ c.if-not-has.false)) (tell-stated _ _ _ c.reads_stated.ensures)
