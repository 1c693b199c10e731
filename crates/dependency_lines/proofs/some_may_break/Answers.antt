use mathlib.Core.Path.{refl, sym, ◌∙◌}
use mathlib.Core.Bool.{true≢false}
use native.Mathlib.Omega.{arith}
use Rattle.table.specs.Events.{event, hart}
use Rattle.dependency_lines.proofs.PassingLaws.{pass-start, pass-more, pass-end}
use Rattle.dependency_lines.proofs.some_may_break.Goals as goal

pub loop-k-init : goal.loop-k-init
loop-k-init c = pass-start _

pub returns-then-h-ge-HARTS : goal.returns-then-h-ge-HARTS
returns-then-h-ge-HARTS c = λ h. absurd (true≢false h)

pub returns-then-may_break : goal.returns-then-may_break
returns-then-may_break c = λ h. absurd (true≢false h)

pub loop-k-preserved : goal.loop-k-preserved
unfolding event hart
loop-k-preserved c = pass-more _ _ _ _ _ c.loop-k.invariant (omega arith) refl (omega arith)
    (sym c.may_break.ensures ∙ c.if-may_break.false) c.after.ensures

pub returns : goal.returns
returns c = λ h. pass-end _ _ _ c.loop-k.invariant (omega arith)
