use mathlib.Core.Path.{sym}
use native.Mathlib.Omega.{arith}
use Rattle.lists.specs.Filled.{up_to}
use Rattle.checksum.specs.Lanes.{lanes}
use Rattle.checksum.proofs.WeightLaws.{plain_at}
use Rattle.checksum.proofs.LaneLaws.{added-lanes}
use Rattle.checksum.proofs.add.Goals as goal

-- `add`: a lane is at most all of them, so no sum is too large.
pub overflow_add-result : goal.overflow_add-result
overflow_add-result c = omega (arith, plain_at c.args.a 0, plain_at c.args.b 0)

pub overflow_add-result-2 : goal.overflow_add-result-2
overflow_add-result-2 c = omega (arith, plain_at c.args.a 1, plain_at c.args.b 1)

pub overflow_add-result-3 : goal.overflow_add-result-3
overflow_add-result-3 c = omega (arith, plain_at c.args.a 2, plain_at c.args.b 2)

pub overflow_add-result-4 : goal.overflow_add-result-4
overflow_add-result-4 c = omega (arith, plain_at c.args.a 3, plain_at c.args.b 3)

pub returns : goal.returns
unfolding up_to
returns c = sym (added-lanes lanes _ _ c.well_formed.0.1.0.1 c.well_formed.1.0.1.0.1)
