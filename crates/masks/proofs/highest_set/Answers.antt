use native.Mathlib.Omega.{arith}
use Rattle.masks.proofs.HighestLaws.{highest-set}
use Rattle.masks.proofs.highest_set.Goals as goal

pub overflow_sub-result : goal.overflow_sub-result
overflow_sub-result c = omega (arith, (highest-set c.args.m c.requires c.ranges.m.fits).0)
