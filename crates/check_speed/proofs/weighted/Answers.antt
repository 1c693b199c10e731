use mathlib.Core.Path.{refl}
use native.Mathlib.Omega.{arith}
use Rattle.checksum.specs.Checksum.{covered}
use Rattle.check_speed.proofs.WeightLaws.{weighted-small}
use Rattle.check_speed.proofs.weighted.Goals as goal

-- `weighted`: a product of a place and a byte is small.
pub overflow_mul-result : goal.overflow_mul-result
overflow_mul-result c = let h = weighted-small c.args.i covered c.args.b c.requires c.ranges.b.fits in rw c.from.ensures (omega (arith, h))

pub returns : goal.returns
returns c = let h = weighted-small c.args.i covered c.args.b c.requires c.ranges.b.fits in rw c.from.ensures (record { product = refl; small = h })
