use Prim.Native.Nat.{◌-◌}
use mathlib.Core.Path.{◌≡◌, refl, sym, ◌∙◌}
use native.Mathlib.Omega.{arith}
use lib.ListN.{length}
use Rattle.table.specs.Events.{event, kind, hart, location, writes, same_location, po}
use Rattle.model.specs.Returns.{visible, return_of}
use Rattle.lists.proofs.LastLaws.{last-hit, last-skip, last_end}
use Rattle.returns.proofs.ReturnLaws.{past-slots}
use Rattle.returns.proofs.return_of.Goals as goal
use Rattle.returns.proofs.return_of.Goals.{then-visible, else-visible}

pub loop-w-init : goal.loop-w-init
loop-w-init c = (omega arith, refl)

pub overflow_cast-w : goal.overflow_cast-w
overflow_cast-w c = omega (arith, c.type_inv.gmo c.loop-w.w-index)

pub loop-w-preserved-then-w-ge-CAPACITY : goal.loop-w-preserved-then-w-ge-CAPACITY
loop-w-preserved-then-w-ge-CAPACITY c = let v = c.loop-w in
    let slots : length c.args.t.events ≡ 32 = c.well_formed.0.1.1.1.1.1.1.1.1.0.1.0.1 in
    (omega arith, v.invariant.1 ∙ last-skip _ v.latest _ v.w-index (omega arith) refl (past-slots _ _ _ _ (omega arith)))

pub loop-w-preserved : goal.loop-w-preserved
unfolding visible writes kind same_location location po hart event
loop-w-preserved c = let v = c.loop-w in (
  omega arith,
  v.invariant.1 ∙ elim c.if-visible.branch [ then-visible w ↦ rw w.latest-is (last-hit _ v.latest _ v.w-index (omega arith) c.visible.ensures w.if-visible.true) | else-visible w ↦ rw w.latest-is (last-skip _ v.latest _ v.w-index (omega arith) c.visible.ensures w.if-visible.false) ],
)

pub returns : goal.returns
unfolding return_of
returns c = let v = c.loop-w in
    sym (v.invariant.1 ∙ last_end _ v.latest _ v.w-index (omega arith))
