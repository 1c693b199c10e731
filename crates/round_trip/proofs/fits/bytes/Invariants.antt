use Prim.Native.Nat.{◌<◌, ◌^◌}
use Rattle.round_trip.proofs.TypeLaws.{EachBelow}
use Rattle.round_trip.proofs.fits.bytes.Given as goal

abbrev pub invariant-loop-b : goal.invariant-loop-b
invariant-loop-b l = EachBelow (λ b. b < 2 ^ 8) l.s 0 l.b-index
