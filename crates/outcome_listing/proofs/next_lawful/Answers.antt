use mathlib.Core.Path.{refl}
use mathlib.Core.Logic.{inl}
use Rattle.outcome_listing.proofs.NextLaws.{next-lawful}
use Rattle.outcome_listing.proofs.next_lawful.Goals as goal

pub walk-requires : goal.walk-requires
walk-requires c = let p = c.requires in record { prepared = p.prepared; fact = (inl p.later_value, refl) }

pub returns : goal.returns
returns c = let a = c.args in
    let e = c.walk.ensures in
    record { next_lawful = next-lawful a.facts.now a.pred.now a.mem a.order.now _ a.from a.budget c.walk.result _ e.runs c.requires.later_value; order_len = e.order_len }
