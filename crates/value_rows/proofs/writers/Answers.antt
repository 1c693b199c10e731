use Prim.Native.Nat.{◌-◌}
use native.Mathlib.Omega.{arith}
use Rattle.lists.proofs.PaddedLaws.{pad-start, pad-more, pad-end}
use Rattle.facts.proofs.RowsLaws.{writers-at}
use Rattle.value_rows.proofs.writers.Goals as goal

pub loop-x-init : goal.loop-x-init
loop-x-init c = pad-start _ _ _

pub loop-x-preserved : goal.loop-x-preserved
loop-x-preserved c = let pre = c.requires in
    pad-more _ _ _ _ _ _ (omega (arith, pre.0.locations)) c.loop-x.invariant (omega arith)
    (writers-at _ _ pre.1 c.loop-x.x (omega (arith, pre.0.locations)))

pub returns : goal.returns
returns c = pad-end _ _ _ _ _ c.loop-x.invariant (omega arith)
