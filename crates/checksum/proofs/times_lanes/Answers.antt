use native.Mathlib.Omega.{arith}
use Rattle.checksum.proofs.LaneLaws.{plain-lanes}
use Rattle.checksum.proofs.times_lanes.Goals as goal

-- `times_lanes`: the sum of four lanes, doubled twice.
pub overflow_add-once : goal.overflow_add-once
overflow_add-once c = omega (arith, plain-lanes c.args.a c.well_formed.0.1.0.1)

pub overflow_add-once-2 : goal.overflow_add-once-2
overflow_add-once-2 c = omega (arith, plain-lanes c.args.a c.well_formed.0.1.0.1)

pub overflow_add-once-3 : goal.overflow_add-once-3
overflow_add-once-3 c = omega (arith, plain-lanes c.args.a c.well_formed.0.1.0.1)

pub overflow_add-twice : goal.overflow_add-twice
overflow_add-twice c = omega (arith, plain-lanes c.args.a c.well_formed.0.1.0.1)

pub overflow_add-result : goal.overflow_add-result
overflow_add-result c = omega (arith, plain-lanes c.args.a c.well_formed.0.1.0.1)

pub returns : goal.returns
returns c = omega (arith, plain-lanes c.args.a c.well_formed.0.1.0.1)
