use Prim.Native.Nat.{ℕ}
use mathlib.Core.Path.{ap, ap₂, ◌∙◌}
use mathlib.Core.Bool.{◌&&◌, ◌||◌}
use Rattle.table.specs.Annotations.{acquiring, releasing, acquire_sc, release_sc}
use Rattle.model.specs.Rules.{rule1, rule3, rule5, rule6, rule7, rule9, rule10, rule11}
use Rattle.table.proofs.EventTests.{of_events}
use Rattle.rules.proofs.RuleLaws.{held}
use Rattle.rules.proofs.rules.Goals as goal

pub returns : goal.returns
unfolding rule1 rule3 rule5 rule6 rule7 rule9 rule10 rule11 of_events
returns c = let of-a = c.annotations-p.ensures in
    let of-b = c.annotations-q.ensures in
    held _ _ _ _ c.rule1.ensures c.rule2-second.ensures c.rule3-third.ensures c.rule4.ensures
    (c.rule5.ensures ∙ ap acquiring of-a) (c.rule6.ensures ∙ ap releasing of-b)
    (c.rule7.ensures ∙ ap₂ (λ (m n : ℕ). (acquire_sc m || release_sc m) && (acquire_sc n || release_sc n)) of-a of-b)
    c.rule8.ensures c.rule9.ensures c.rule10.ensures c.rule11.ensures
    c.rule12-twelfth.ensures c.rule13.ensures
