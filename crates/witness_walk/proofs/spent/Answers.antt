use native.Mathlib.Omega.{arith}
use lib.Count.{ones-le}
use Rattle.witness_walk.proofs.spent.Goals as goal

pub overflow_cast-result : goal.overflow_cast-result
overflow_cast-result c = omega (arith, ones-le 32 c.args.placed (omega arith))
