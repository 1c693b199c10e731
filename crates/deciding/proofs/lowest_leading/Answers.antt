use native.Mathlib.Omega.{arith}
use mathlib.Core.Path.{refl, subst, ◌∙◌}
use Rattle.deciding.specs.Deciding.{Completes}
use Rattle.deciding.proofs.TryLaws.{trying_start, lowest, lowest-event, lowest-leads, trying-more}
use Rattle.deciding.proofs.TryLaws.{none-leads}
use Rattle.deciding.proofs.lowest_leading.Goals as goal

pub loop-e-init : goal.loop-e-init
loop-e-init c = rw c.into_iter-e-iterator.ensures.into_iter_gives (refl, trying_start c.ranges.events.fits c.requires.1)

pub overflow_cast-e : goal.overflow_cast-e
overflow_cast-e c = let s = c.in-Some.ensures.steps in omega arith

pub step-next-requires : goal.step-next-requires
step-next-requires c =
    let s = c.in-Some.ensures.steps in lowest-event c.loop-e.invariant.1 _ s.some s.lowest c.requires.0

pub overflow_cast-result : goal.overflow_cast-result
overflow_cast-result c = let s = c.in-Some.ensures.steps in omega arith

pub returns-then-completes : goal.returns-then-completes
returns-then-completes c = let g = c.loop-e.invariant.1 in let s = c.in-Some.ensures.steps in
    record {
      listed = g.fewer _ (lowest g _ s.some s.lowest).1;
      tells = lowest-leads g _ s.some
          s.lowest c.step-next.ensures (subst (Completes _ _ _ _ _ _) c.if-completes.true c.completes.ensures);
    }

pub loop-e-preserved : goal.loop-e-preserved
loop-e-preserved c = let s = c.in-Some.ensures.steps in (
  c.completes.auto.memo ∙ c.loop-e.invariant.0,
  rw s.rest (trying-more c.loop-e.invariant.1 _ s.some s.lowest c.step-next.ensures _ refl
      (subst (Completes _ _ _ _ _ _) c.if-completes.false c.completes.ensures)),
)

pub returns : goal.returns
returns c = record { listed = tt; tells = none-leads c.loop-e.invariant.1 c.in-None.ensures.steps.0 }
