use native.Mathlib.Omega.{arith}
use mathlib.Core.Path.{◌≡◌, refl, ap, subst, ◌∙◌}
use mathlib.Core.Bool.{true}
use Rattle.std.specs.Prelude.{Some}
use Rattle.std.proofs.lemmas.Result.{err_from_is_err_and}
use Rattle.lists.specs.Reply.{refused}
use Rattle.refusals.specs.Refusals.{refused_by}
use Rattle.machine.specs.Machine.{start, event_of, accepts, stepped, is_run}
use Rattle.machine.specs.Statements.{state}
use Rattle.machine.proofs.StateLaws.{Reached}
use Rattle.steps.specs.Steps.{Holds, Outcome, RunsAs}
use Rattle.steps.proofs.RunLaws.{room-left}
use Rattle.steps.proofs.ReplyLaws.{begun, no_run, not_taken, reached, event-inside, taken}
use Rattle.steps.proofs.step_behind.Goals as goal
use Rattle.steps.proofs.step_behind.Goals.{In_ok-done, In_ok-taken}

-- the list was run
reaches : (c : In_ok-done) → let a = c.args in
    let l = c.run.new in
    (is_run a.m.table (start a.m.table) a.steps.now ≡ true)
    × Holds a.m.table c.in_ok-done.done l.order l.rf (state a.m.table a.steps.now)
reaches c = subst (RunsAs _ _ _ _) c.in_ok-done.ensures.ok_part c.run.ensures

reached-there : (c : In_ok-done) → let a = c.args in Reached a.m.table (state a.m.table a.steps.now)
reached-there c = reached _ _ 0 c.requires.tso (reaches c).0

-- the step was taken
outcome : (c : In_ok-taken) → let a = c.args in
    Reached a.m.table (state a.m.table a.steps.now)
    → Holds a.m.table c.in_ok-done.done c.run.new.order c.run.new.rf (state a.m.table a.steps.now) →
    let l = c.take.new in
    let s = state a.m.table a.steps.now in
    Outcome a.m.table (accepts a.m.table s a.b) (event_of a.m.table s a.b) (stepped a.m.table s a.b) l.order
    l.rf (Some c.in_ok-taken.taken)
outcome c r h = subst (Outcome _ _ _ _ _ _) c.in_ok-taken.ensures.ok_part (c.take.ensures _ r h)

pub run-requires : goal.run-requires
run-requires c = let k = c.requires in (k, begun _ _ k.tso.good.small.events refl)

pub returns-in_err-done : goal.returns-in_err-done
returns-in_err-done c =
    let p = err_from_is_err_and c.from_residual.result c.from_residual.ensures.1 in
    let e = c.in_err-done.ensures in
    rw (p.1, p.2) (ap (λ r. refused (refused_by r)) (rw e.ok_part at e.value) ∙ no_run _ _ _ (subst (RunsAs _ _ _ _) e.ok_part c.run.ensures))

pub take-requires : goal.take-requires
take-requires c = let k = c.requires in
    let p = (goal.at.take-requires c).In_ok-done in
    (k, room-left k.tso (reached-there p) (reaches p).1 c.run.auto.order c.run.auto.rf)

pub returns-in_err-taken : goal.returns-in_err-taken
returns-in_err-taken c = let at = goal.at.returns-in_err-taken c in
    let p = err_from_is_err_and c.from_residual-in_err-taken.result c.from_residual-in_err-taken.ensures.1 in
    let e = c.in_err-taken.ensures in
    rw (p.1, p.2) (ap (λ r. refused (refused_by r)) (rw e.ok_part at e.value)
    ∙ not_taken _ _ _ (subst (Outcome _ _ _ _ _ _) e.ok_part (c.take.ensures _ (reached-there at.In_ok-done) (reaches at.In_ok-done).1)))

pub returned_from-requires : goal.returned_from-requires
returned_from-requires c = let p = goal.at.returned_from-requires c in
    let k = c.requires.tso in
    omega (
      arith,
      event-inside _ _ _ k (reaches p.In_ok-done).0 (outcome p.In_ok-taken (reached-there p.In_ok-done) (reaches p.In_ok-done).1),
      k.good.small.events,
      c.take.auto.rf,
      c.run.auto.rf,
    )

pub returns : goal.returns
returns c = let p = goal.at.returns c in
    taken _ _ _ c.requires.tso (reaches p.In_ok-done).0 (outcome p.In_ok-taken (reached-there p.In_ok-done) (reaches p.In_ok-done).1) _ c.returned_from.ensures
