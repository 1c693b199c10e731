use Rattle.deciding.proofs.TryLaws.{told-end, told-known, told-lost, chosen-may, trying_start}
use Rattle.deciding.proofs.TryLaws.{lowest-event, lowest-leads, trying-more, none-leads, told-hit}
use Rattle.deciding.proofs.TryLaws.{told_none}
use mathlib.Core.Path.{refl, subst, ◌∙◌}
use Rattle.deciding.specs.Deciding.{Completes}
use native.Mathlib.Omega.{arith}
use Rattle.deciding.proofs.+completes.Goals as goal

pub returns-then-left-eq0 : goal.returns-then-left-eq0
returns-then-left-eq0 t c = told-end c.if-left-eq0.true

pub returns-then-knows : goal.returns-then-knows
returns-then-knows t c = told-known c.knows.ensures c.if-knows.true

pub returns-then-is_lost : goal.returns-then-is_lost
returns-then-is_lost t c = told-lost c.is_lost.ensures c.if-is_lost.true

pub loop-e-init : goal.loop-e-init
loop-e-init t c =
    rw c.into_iter-e-iterator.ensures.into_iter_gives
    (refl, trying_start c.choice-tries.type_inv (chosen-may c.accepted-can.ensures c.choice-tries.ensures))

pub overflow_cast-e : goal.overflow_cast-e
overflow_cast-e t c = let s = c.in-Some.ensures.steps in omega arith

pub step-next-requires : goal.step-next-requires
step-next-requires t c =
    let s = c.in-Some.ensures.steps in lowest-event c.loop-e.invariant.1 _ s.some s.lowest c.requires

pub returns-then-completes : goal.returns-then-completes
returns-then-completes t c =
    let g = c.loop-e.invariant.1 in
    let s = c.in-Some.ensures.steps in
    told-hit g.may
    (lowest-leads g _ s.some s.lowest c.step-next.ensures
    (subst (Completes _ _ _ _ _ _) c.if-completes.true c.completes.ensures))

pub loop-e-preserved : goal.loop-e-preserved
loop-e-preserved t c = let s = c.in-Some.ensures.steps in (
  c.completes.auto.memo ∙ c.loop-e.invariant.0,
  rw s.rest (trying-more c.loop-e.invariant.1 _ s.some s.lowest c.step-next.ensures _ refl
      (subst (Completes _ _ _ _ _ _) c.if-completes.false c.completes.ensures)),
)

pub returns : goal.returns
returns t c =
    told_none c.if-left-eq0.false c.accepted-can.ensures c.choice-tries.ensures
    (none-leads c.loop-e.invariant.1 c.in-None.ensures.steps.0) c.store.ensures
