use Prim.Native.Nat.{◌-◌, ◌<◌}
use mathlib.Core.Path.{◌≡◌, ap, ◌∙◌}
use mathlib.Core.List.{[]}
use native.Mathlib.Omega.{arith}
use Rattle.edition.specs.Limits.{max_harts}
use Rattle.table.specs.declared.EventNo.{EventNo}
use Rattle.machine.specs.Machine.{next}
use Rattle.steps.proofs.HoldLaws.{left-next, held-oldest}
use Rattle.steps.proofs.RunLaws.{is-next, take-issues, take-issues-none, take-drains, take-drains-none}
use Rattle.steps.proofs.take.Goals as goal

pub returns-in_err-e : goal.returns-in_err-e
returns-in_err-e c s r h = let b = c.args.b in
    let none = rw c.in_err-e.was at c.first_of.ensures in
    rw c.from_residual.ensures (take-issues-none _ [] [] s b _ c.if-b.true (left-next _ _ _ _ s h b) none)

pub returns-then-b : goal.returns-then-b
returns-then-b c s r h = let found = rw c.in_ok-e.was at c.first_of.ensures in
    let at = ap (λ (e : EventNo). e.0) found.1 in
    let l : c.in_ok-e.e.0 < c.args.m.table.count = omega (arith, at, found.0) in
    let e : c.in_ok-e.e.0 ≡ next c.args.m.table s c.args.b = at ∙ left-next _ _ _ _ s h c.args.b in
    take-issues _ _ _ s c.args.b _ c.issue.result c.if-b.true e l
    (c.issue.ensures s r (is-next _ s c.args.b _ e l) h)

pub returns-in_err-e-2 : goal.returns-in_err-e-2
returns-in_err-e-2 c s r h = let b = c.args.b in
    let none = rw c.in_err-e-2.was at c.first_of-2.ensures in
    rw c.from_residual-in_err-e-2.ensures (take-drains-none _ [] [] s b _ c.if-b.false (held-oldest _ _ _ _ s h (b - max_harts)) none)

pub returns : goal.returns
returns c s r h = let found = rw c.in_ok-e-2.was at c.first_of-2.ensures in
    let at = ap (λ (e : EventNo). e.0) found.1 in
    let l : c.in_ok-e-2.e.0 < c.args.m.table.count = omega (arith, at, found.0) in
    take-drains _ _ _ s c.args.b _ c.drain.result c.if-b.false
    (at ∙ held-oldest _ _ _ _ s h (c.args.b - max_harts)) l (c.drain.ensures s h)
