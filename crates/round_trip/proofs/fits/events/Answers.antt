use native.Mathlib.Omega.{arith}
use Rattle.table.specs.Events.{no_event}
use Rattle.writer.specs.Fits.{EventFits}
use Rattle.round_trip.proofs.TypeLaws.{none_yet, one_more}
use Rattle.round_trip.proofs.fits.events.Goals as goal

pub loop-e-init : goal.loop-e-init
loop-e-init c = none_yet EventFits c.args.v no_event

pub loop-e-preserved : goal.loop-e-preserved
loop-e-preserved c = one_more EventFits c.args.v no_event _ c.loop-e.invariant c.event.ensures

pub returns : goal.returns
returns c = record { long = c.well_formed.0.1.0.1; each = λ k l. c.loop-e.invariant k (omega arith) }
