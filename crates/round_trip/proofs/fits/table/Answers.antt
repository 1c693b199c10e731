use Rattle.table.specs.Events.{event}
use borrow.Author.Rules.{rules}
use Rattle.round_trip.proofs.fits.table.Goals as goal

pub returns : goal.returns
unfolding event
returns c = search rules
