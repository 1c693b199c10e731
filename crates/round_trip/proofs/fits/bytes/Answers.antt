use Prim.Native.Nat.{◌<◌, ◌^◌}
use native.Mathlib.Omega.{arith}
use Rattle.round_trip.proofs.TypeLaws.{none_yet, one_more, bytes_of}
use Rattle.round_trip.proofs.fits.bytes.Goals as goal

pub loop-b-init : goal.loop-b-init
loop-b-init c = none_yet (λ b. b < 2 ^ 8) c.args.s.now 0

pub loop-b-preserved : goal.loop-b-preserved
loop-b-preserved c = one_more (λ b. b < 2 ^ 8) c.args.s.now 0 _ c.loop-b.invariant c.byte.ensures

pub returns : goal.returns
returns c = bytes_of c.args.s.now (λ k l. c.loop-b.invariant k (omega arith))
