use Prim.Native.Nat.{ℕ}
use mathlib.Core.Path.{◌≡◌, refl, sym, ap, ◌∙◌}
use native.Mathlib.Omega.{arith}
use Rattle.lists.specs.Below.{some}
use mathlib.Core.Bool.{◌&&◌}
use Rattle.masks.specs.Bit.{bit}
use Rattle.table.specs.Events.{capacity, po, hart, kind, event}
use Rattle.refusals.specs.TableLines.{names_wrongly}
use Rattle.masks.proofs.LeftLaws.{left-hit, left-more, left_end}
use Rattle.dependency_lines.proofs.DependencyLaws.{wrongly, wrong-named}
use Rattle.dependency_lines.proofs.some_names_wrongly.Goals as goal
use Rattle.dependency_lines.proofs.some_names_wrongly.Goals.{After-named-names}

-- the events that are named, as the mask that the loop goes over
whole : (c : After-named-names) → let a = c.args in
    some capacity (names_wrongly a.t a.k.0) ≡ some capacity (λ m. bit c.named-names.result m && wrongly a.t a.k.0 m)
unfolding event
whole c =
    let a = c.args in
    wrong-named a.t a.k.0
    ∙ ap (λ (x : ℕ). some capacity (λ m. bit x m && wrongly a.t a.k.0 m)) (sym (rw c.from.ensures at c.named-names.ensures))

pub loop-m-init : goal.loop-m-init
loop-m-init c = rw c.into_iter-m-iterator.ensures.into_iter_gives (c.named-names.type_inv, refl)

pub bounds-t-m : goal.bounds-t-m
bounds-t-m c = c.in-Some.ensures.steps.fits

pub overflow_cast-m : goal.overflow_cast-m
overflow_cast-m c = let s = c.in-Some.ensures.steps in omega arith

pub returns-then-program_order-z : goal.returns-then-program_order-z
unfolding po hart kind event
returns-then-program_order-z c =
    let s = c.in-Some.ensures.steps in
    sym (whole (goal.at.returns-then-program_order-z c).After-named-names ∙ left-hit _ _ _ _ _ c.loop-m.invariant s.some s.lowest
    (rw (c.program_order.ensures, c.fences.ensures, c.from.ensures) at c.if-program_order-z.true))

pub loop-m-preserved : goal.loop-m-preserved
unfolding po hart kind event
loop-m-preserved c =
    let s = c.in-Some.ensures.steps in
    rw s.rest (left-more _ _ _ _ _ c.loop-m.invariant s.some s.lowest _ refl
    (rw (c.program_order.ensures, c.fences.ensures, c.from.ensures) at c.if-program_order-z.false))

pub returns : goal.returns
returns c = sym (whole (goal.at.returns c).After-named-names ∙ left_end _ _ _ _ c.loop-m.invariant c.in-None.ensures.steps.0)
