use Rattle.outcome_listing.proofs.NoteLaws.{note-put, note-left, room-enough}
use native.Mathlib.Omega.{arith}
use mathlib.Core.Path.{refl}
use Rattle.outcome_listing.proofs.note.Goals as goal

pub insert-requires : goal.insert-requires
insert-requires c = let o = c.outcome-width in
    (c.requires.n_le_room.0, room-enough o.result 40 _ _ o.ensures.upper_bound.0 c.requires.n_le_room.1, omega (arith, o.ensures.upper_bound.0, o.ensures.upper_bound.1))

pub returns-then-above : goal.returns-then-above
returns-then-above c = let o = c.outcome-width in
    let i = c.insert in
    record { notes = note-put _ _ _ c.args.asked c.args.previous.now c.args.n c.args.kept.now o.result _ o.ensures.gives _ c.above.ensures c.if-above.true i.result _ i.ensures.puts; upper_bound = i.ensures.upper_bound }

pub returns-else-above : goal.returns-else-above
returns-else-above c = let o = c.outcome-width in
    record { notes = note-left _ _ _ c.args.asked c.args.previous.now c.args.n c.args.kept.now o.result _ o.ensures.gives _ c.above.ensures c.if-above.false; upper_bound = (c.requires.n_le_room.0, refl) }
