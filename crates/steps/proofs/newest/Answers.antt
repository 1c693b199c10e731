use native.Mathlib.Nat.{le_of_lt}
use Rattle.table.proofs.EventTests.{of_events}
use Rattle.steps.proofs.BufferMasks.{own_is, newest-none, newest-some, newest-inside}
use Rattle.steps.proofs.newest.Goals as goal

pub bounds-s-y : goal.bounds-s-y
unfolding of_events
bounds-s-y c = c.requires.0.tso.good.small.each-hart c.args.r.0 c.requires.1

pub bounds-s-y-2 : goal.bounds-s-y-2
unfolding of_events
bounds-s-y-2 c = c.requires.0.tso.good.small.each-location c.args.r.0 c.requires.1

pub returns-then-own-eq0-clause-newest : goal.returns-then-own-eq0-clause-newest
unfolding of_events
returns-then-own-eq0-clause-newest c s q = let m = c.requires.0 in
    newest-none _ s _ q _ _ (own_is _ s _ q _ m.sets m.tso.good.small c.args.r.0 c.requires.1) c.if-own-eq0.true

pub returns-else-own-eq0-clause-inside : goal.returns-else-own-eq0-clause-inside
unfolding of_events
returns-else-own-eq0-clause-inside c = let m = c.requires.0 in
    rw c.highest_set.ensures (newest-inside _ _ m.sets m.tso.good.small c.args.r.0 c.requires.1 _ c.if-own-eq0.false)

pub returns-else-own-eq0-clause-newest : goal.returns-else-own-eq0-clause-newest
unfolding of_events
returns-else-own-eq0-clause-newest c s q = let m = c.requires.0 in
    newest-some _ s _ q _ _ _ (own_is _ s _ q _ m.sets m.tso.good.small c.args.r.0 c.requires.1)
    (le_of_lt m.tso.good.small.events) c.if-own-eq0.false c.highest_set.ensures
