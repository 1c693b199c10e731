use Prim.Native.Nat.{◌-◌, ◌^◌}
use mathlib.Core.Path.{ap, ◌∙◌}
use mathlib.Core.Bool.{Bool, cond}
use native.Mathlib.Omega.{arith}
use Rattle.masks.proofs.GatherLaws.{gather-start, gather-more, gather-end}
use Rattle.facts.proofs.RowsLaws.{unmet-is}
use Rattle.facts.proofs.unmet_word.Goals as goal

pub loop-x-init : goal.loop-x-init
loop-x-init c = gather-start _ _

pub loop-x-preserved : goal.loop-x-preserved
loop-x-preserved c = let v = c.loop-x in
    let pre = c.requires in
    gather-more _ _ _ _ _ v.invariant c.loop-x-test.true
    (c.one_if-mask.ensures ∙ ap (λ (b : Bool). cond b (2 ^ v.x) 0)
    (unmet-is _ _ pre.1 v.x (omega (arith, c.loop-x-test.true, pre.0.locations)) _ c.has.ensures))

pub returns : goal.returns
returns c = gather-end _ _ _ _ c.loop-x.invariant (omega arith)
