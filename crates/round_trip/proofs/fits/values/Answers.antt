use Prim.Native.Nat.{◌<◌, ◌^◌}
use native.Mathlib.Omega.{arith}
use Rattle.round_trip.proofs.TypeLaws.{none_yet, one_more}
use Rattle.round_trip.proofs.fits.values.Goals as goal

pub loop-x-init : goal.loop-x-init
loop-x-init c = none_yet (λ b. b < 2 ^ 16) c.args.v 0

pub loop-x-preserved : goal.loop-x-preserved
loop-x-preserved c = one_more (λ b. b < 2 ^ 16) c.args.v 0 _ c.loop-x.invariant c.value.ensures

pub returns : goal.returns
returns c = record { long = c.well_formed.0.1.0.1; each = λ k l. c.loop-x.invariant k (omega arith) }
