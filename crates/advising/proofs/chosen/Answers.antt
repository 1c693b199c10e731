use mathlib.Core.Path.{ap, ◌∙◌}
use mathlib.Core.Bool.{Bool, cond}
use native.Mathlib.Omega.{arith}
use Rattle.advising.proofs.ChosenLaws.{choose-start, choose-lowest, choose-less, choose-room, choose-more, choose-end}
use Rattle.advising.proofs.chosen.Goals as goal

pub loop-left-init : goal.loop-left-init
loop-left-init c = choose-start _ _ c.ranges.fences.fits

pub one-bit-requires : goal.one-bit-requires
one-bit-requires c = choose-lowest _ _ _ _ _ c.loop-left.invariant (omega arith) c.lowest_set-e.ensures

pub has-requires : goal.has-requires
has-requires c = choose-room _ _ _ _ _ c.loop-left.invariant (omega arith) c.lowest_set-e.ensures _ c.one-bit.ensures

pub loop-left-smaller : goal.loop-left-smaller
loop-left-smaller c = choose-less _ _ _ _ _ c.loop-left.invariant (omega arith) c.lowest_set-e.ensures _ c.one-bit.ensures

pub loop-left-preserved : goal.loop-left-preserved
loop-left-preserved c = choose-more _ _ _ _ _ c.loop-left.invariant (omega arith) c.lowest_set-e.ensures _ c.one-bit.ensures _ (c.mask_if-set.ensures ∙ ap (λ (b : Bool). cond b c.one-bit.result 0) c.has.ensures)

pub returns : goal.returns
returns c = choose-end _ _ _ _ c.loop-left.invariant c.loop-left-test.false
