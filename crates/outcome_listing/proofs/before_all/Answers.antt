use mathlib.Core.Path.{refl}
use Rattle.outcome_listing.proofs.StandLaws.{first-current}
use Rattle.outcome_listing.proofs.before_all.Goals as goal

pub returns : goal.returns
returns c = (refl, refl, first-current _ c.args.mem c.ready_of-can.result c.ready_of-can.ensures, refl)
