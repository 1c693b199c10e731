use mathlib.Core.Path.{sym, ◌∙◌}
use native.Mathlib.Omega.{arith}
use borrow.Author.Rules.{rules}
use Rattle.std.specs.Prelude.{Err}
use Rattle.condition_reader.specs.Steps.{JointSays}
use Rattle.condition_reader.proofs.WordLaws.{get-same, get-other}
use Rattle.condition_reader.proofs.JointLaws.{next-o, next-other, joint-space, joint-or, joint-not-or, joint-and, joint-not-and}
use Rattle.condition_reader.proofs.read_joint.Goals as goal

pub returns-in_err-space : goal.returns-in_err-space
returns-in_err-space c =
    let q = c.in_err-space.ensures in
    let e : JointSays c.args.text.now c.args.step (Err c.in_err-space.field-0.0) = (joint-space _ _ _ q.0, q.1) in
    search rules

pub returns-in_err-step : goal.returns-in_err-step
returns-in_err-step c =
    let p = c.in_ok-space.ensures in
    let q = c.in_err-step.ensures in
    let g = get-same _ _ _ _ c.get.ensures.lookup (sym c.eq.ensures ∙ c.if-eq.true) in
    let o = next-o _ _ g.0 g.1 in
    let e : JointSays c.args.text.now c.args.step (Err c.in_err-step.field-0.0) = (joint-not-or _ _ p.0.0 _ o _ q.0, q.1) in
    search rules

pub returns-in_ok-step : goal.returns-in_ok-step
returns-in_ok-step c =
    let p = c.in_ok-space.ensures in
    let q = c.in_ok-step.ensures in
    let g = get-same _ _ _ _ c.get.ensures.lookup (sym c.eq.ensures ∙ c.if-eq.true) in
    let o = next-o _ _ g.0 g.1 in
    (joint-or _ _ p.0.0 _ o q.0.0, q.0.1, omega (arith, p.0.2, q.0.2), q.1 ∙ p.1)

pub returns-in_err-step-2 : goal.returns-in_err-step-2
returns-in_err-step-2 c =
    let p = c.in_ok-space.ensures in
    let q = c.in_err-step-2.ensures in
    let o = next-other _ _ (get-other _ _ _ _ c.get.ensures.lookup (sym c.eq.ensures ∙ c.if-eq.false)) in
    let e : JointSays c.args.text.now c.args.step (Err c.in_err-step-2.field-0.0) = (joint-not-and _ _ p.0.0 _ o _ q.0, q.1) in
    search rules

pub returns-in_ok-step-2 : goal.returns-in_ok-step-2
returns-in_ok-step-2 c =
    let p = c.in_ok-space.ensures in
    let q = c.in_ok-step-2.ensures in
    let o = next-other _ _ (get-other _ _ _ _ c.get.ensures.lookup (sym c.eq.ensures ∙ c.if-eq.false)) in
    (joint-and _ _ p.0.0 _ o q.0.0, q.0.1, omega (arith, p.0.2, q.0.2), q.1 ∙ p.1)
