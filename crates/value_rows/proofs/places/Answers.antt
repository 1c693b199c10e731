use Prim.Native.Nat.{◌-◌}
use native.Mathlib.Omega.{arith}
use mathlib.Core.Path.{refl}
use Rattle.lists.proofs.PaddedLaws.{pad-start, pad-more, pad-end}
use Rattle.table.specs.Events.{event, location}
use Rattle.value_rows.proofs.places.Goals as goal

pub loop-e-init : goal.loop-e-init
loop-e-init c = pad-start _ _ _

pub overflow_cast-row-in-loop-e-2 : goal.overflow_cast-row-in-loop-e-2
unfolding location event
overflow_cast-row-in-loop-e-2 c = let k = c.requires.each-location c.loop-e.e c.loop-e-test.true in omega (arith, k)

pub loop-e-preserved : goal.loop-e-preserved
unfolding location event
loop-e-preserved c = let v = c.loop-e in
    pad-more _ _ _ _ _ _ (omega (arith, c.requires.events)) v.invariant (omega arith) refl

pub returns : goal.returns
returns c = pad-end _ _ _ _ _ c.loop-e.invariant (omega arith)
