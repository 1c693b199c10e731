use Prim.Native.Nat.{◌-◌}
use native.Mathlib.Omega.{arith}
use Rattle.masks.proofs.GatherLaws.{gather-start, gather-more, gather-end}
use Rattle.table.specs.Events.{event}
use Rattle.order_facts.specs.Facts.{mask_by}
use Rattle.value_rows.proofs.operated.Goals as goal

pub loop-e-init : goal.loop-e-init
loop-e-init c = gather-start _ _

pub loop-e-preserved : goal.loop-e-preserved
unfolding event
loop-e-preserved c = let v = c.loop-e in
    gather-more _ _ _ _ _ v.invariant (omega arith) c.one_if-mask.ensures

pub returns : goal.returns
unfolding mask_by
returns c = gather-end _ _ _ _ c.loop-e.invariant (omega arith)
