use mathlib.Core.Path.{ap}
use lib.ListN.{length}
use Rattle.suite_walk.proofs.test_length.Goals as goal

pub returns : goal.returns
returns c = ap length c.test.ensures
