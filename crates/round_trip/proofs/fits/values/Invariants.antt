use Prim.Native.Nat.{◌<◌, ◌^◌}
use Rattle.round_trip.proofs.TypeLaws.{EachBelow}
use Rattle.round_trip.proofs.fits.values.Given as goal

abbrev pub invariant-loop-x : goal.invariant-loop-x
invariant-loop-x l = EachBelow (λ b. b < 2 ^ 16) l.fn.v 0 l.x-index
