use native.Mathlib.Omega.{arith}
use borrow.Author.Tests.{lt-ltb, le-ltb, lt-leb}
use Rattle.deciding.proofs.is_event.Goals as goal

pub returns-then-x-le-TOP_BIT : goal.returns-then-x-le-TOP_BIT
returns-then-x-le-TOP_BIT c = rw (lt-ltb c.args.x 32 (omega arith)) (rw c.from.ensures at c.has.ensures)

pub returns-else-x-le-TOP_BIT : goal.returns-else-x-le-TOP_BIT
returns-else-x-le-TOP_BIT c = rw (le-ltb c.args.x 32 (omega arith)) (lt-leb c.args.x 31 (omega arith))
