use native.Mathlib.Omega.{arith}
use Rattle.checksum.proofs.LaneLaws.{plain-lanes, weighted-lanes}
use Rattle.checksum.proofs.by_place.Goals as goal

-- `by_place`: the sums from each lane on have a lane as many times as its place says.
pub overflow_add-from_2 : goal.overflow_add-from_2
overflow_add-from_2 c = omega (arith, plain-lanes c.args.a c.well_formed.0.1.0.1)

pub overflow_add-from_1 : goal.overflow_add-from_1
overflow_add-from_1 c = omega (arith, plain-lanes c.args.a c.well_formed.0.1.0.1)

pub overflow_add-from_0 : goal.overflow_add-from_0
overflow_add-from_0 c = omega (arith, plain-lanes c.args.a c.well_formed.0.1.0.1)

pub overflow_add-result : goal.overflow_add-result
overflow_add-result c = omega (arith, plain-lanes c.args.a c.well_formed.0.1.0.1)

pub overflow_add-result-2 : goal.overflow_add-result-2
overflow_add-result-2 c = omega (arith, plain-lanes c.args.a c.well_formed.0.1.0.1)

pub overflow_add-result-3 : goal.overflow_add-result-3
overflow_add-result-3 c = omega (arith, plain-lanes c.args.a c.well_formed.0.1.0.1)

pub returns : goal.returns
returns c = omega (arith, weighted-lanes c.args.a c.well_formed.0.1.0.1)
