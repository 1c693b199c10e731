use Prim.Native.Nat.{◌-◌}
use mathlib.Core.Path.{refl}
use native.Mathlib.Omega.{arith}
use Rattle.lists.proofs.PaddedLaws.{pad-start, pad-more, pad-end}
use Rattle.table.specs.Events.{event, hart, location}
use Rattle.precedence.specs.Precedence.{predecessor_masks}
use Rattle.precedence.proofs.PassedLaws.{none_passed}
use Rattle.precedence.proofs.predecessors.Goals as goal

pub loop-b-init : goal.loop-b-init
loop-b-init c = (pad-start _ _ _, none_passed _)

pub row-requires : goal.row-requires
unfolding hart location event
row-requires c = let small = c.requires.0 in
    let b = c.loop-b.b in
    (omega (arith, small.events), small.each-hart b c.loop-b-test.true, small.each-location b c.loop-b-test.true)

pub pass-p-requires : goal.pass-p-requires
unfolding hart event
pass-p-requires c = let small = c.requires.0 in
    (omega (arith, small.events), small.each-hart c.loop-b.b c.loop-b-test.true)

pub loop-b-preserved : goal.loop-b-preserved
unfolding event
loop-b-preserved c = let v = c.loop-b in
    let t = c.args.t in
    let sets = c.requires.1 in (
      pad-more _ _ _ _ _ _ (omega (arith, c.requires.0.events)) v.invariant.0 c.loop-b-test.true
          (c.row.ensures t c.loop-b-test.true sets v.invariant.1 refl),
      c.pass-p.ensures t c.loop-b-test.true sets v.invariant.1 refl,
    )

pub returns : goal.returns
unfolding predecessor_masks
returns c = pad-end _ _ _ _ _ c.loop-b.invariant.0 (omega arith)
