use mathlib.Core.Path.{sym, ap}
use Rattle.condition_test.specs.Machine.{decided}
use Rattle.condition_test.proofs.decided.Goals as goal

pub returns-then-bit : goal.returns-then-bit
returns-then-bit c = ap decided (sym c.if-bit.true)

pub returns-else-bit : goal.returns-else-bit
returns-else-bit c = ap decided (sym c.if-bit.false)
