use native.Mathlib.Omega.{arith}
use mathlib.Core.Path.{refl}
use Rattle.state_test.proofs.KeptLaws.{held_start, held-lowest, held_more}
use Rattle.state_test.proofs.KeptLaws.{persists-not, persists-off, persists-held}
use Rattle.state_test.proofs.persists.Goals as goal

pub returns-then-set-placed : goal.returns-then-set-placed
returns-then-set-placed c t b = persists-off _ _ _ _ c.requires b c.ranges.set.fits c.if-set-placed.true

pub loop-e-init : goal.loop-e-init
loop-e-init c = rw c.into_iter-e-iterator.ensures.into_iter_gives (held_start _ _ _ _ c.ranges.set.fits)

pub overflow_cast-e : goal.overflow_cast-e
overflow_cast-e c = let s = c.in-Some.ensures.steps in omega arith

pub returns-then-not-is_kept : goal.returns-then-not-is_kept
returns-then-not-is_kept c t b =
    let s = c.in-Some.ensures.steps in
    let low = held-lowest _ _ _ _ _ _ c.loop-e.invariant s.some s.lowest in
    persists-not _ _ _ _ c.requires b _ _ (c.loop-e.invariant.within _ low.1) c.is_kept.ensures c.if-not-is_kept.true

pub loop-e-preserved : goal.loop-e-preserved
loop-e-preserved c =
    let s = c.in-Some.ensures.steps in
    rw s.rest (held_more _ _ _ _ _ _ c.loop-e.invariant s.some s.lowest _ _ refl c.is_kept.ensures c.if-not-is_kept.false)

pub returns : goal.returns
returns c t b = persists-held _ _ _ _ c.requires b c.ranges.set.fits c.if-set-placed.false _ c.loop-e.invariant
    c.in-None.ensures.steps.0
