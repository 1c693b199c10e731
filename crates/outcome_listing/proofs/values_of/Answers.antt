use native.Mathlib.Omega.{arith}
use lib.Count.{ones-le}
use Rattle.outcome_listing.proofs.values_of.Goals as goal

pub overflow_cast-result : goal.overflow_cast-result
overflow_cast-result c = omega (arith, ones-le 32 c.args.readers c.ranges.readers.fits)

pub overflow_add-result : goal.overflow_add-result
overflow_add-result c = omega (arith, ones-le 32 c.args.readers c.ranges.readers.fits, c.requires)
