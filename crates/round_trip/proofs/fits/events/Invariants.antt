use Rattle.table.specs.Events.{no_event}
use Rattle.writer.specs.Fits.{EventFits}
use Rattle.round_trip.proofs.TypeLaws.{EachBelow}
use Rattle.round_trip.proofs.fits.events.Given as goal

abbrev pub invariant-loop-e : goal.invariant-loop-e
invariant-loop-e l = EachBelow EventFits l.fn.v no_event l.e-index
