use Prim.Native.Nat.{◌-◌}
use native.Mathlib.Omega.{arith}
use Rattle.masks.proofs.GatherLaws.{gather-start, gather-more, gather-end}
use Rattle.facts.proofs.filled.Goals as goal

pub loop-e-init : goal.loop-e-init
loop-e-init c = gather-start _ _

pub loop-e-preserved : goal.loop-e-preserved
loop-e-preserved c = gather-more _ _ _ _ _ c.loop-e.invariant (omega arith) c.one_if-mask.ensures

pub returns : goal.returns
returns c = gather-end _ _ _ _ c.loop-e.invariant (omega arith)
