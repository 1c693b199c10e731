use mathlib.Core.Path.{refl, sym, ◌∙◌}
use lib.Seq.{length-take-le}
use Rattle.steps.proofs.HoldLaws.{rf-long, order-room, drain-asked, drain-holds}
use Rattle.steps.proofs.drain.Goals as goal

pub slice_bounds-atomic-end : goal.slice_bounds-atomic-end
slice_bounds-atomic-end c = sym (rf-long _ c.requires.0 c.requires.2)

pub slice_bounds-atomic-end-2 : goal.slice_bounds-atomic-end-2
slice_bounds-atomic-end-2 c = order-room _ c.requires.2

pub slice_bounds-atomic-end-3 : goal.slice_bounds-atomic-end-3
slice_bounds-atomic-end-3 c = sym (length-take-le _ _ (order-room _ c.requires.2))

pub atomic-requires : goal.atomic-requires
atomic-requires c = (c.requires.1, c.requires.0.tso.good.small.events, rf-long _ c.requires.0 c.requires.2)

pub returns-then-not-atomic : goal.returns-then-not-atomic
returns-then-not-atomic c s h = sym (drain-asked _ _ _ _ s h c.requires.2 c.args.e.0 c.requires.1) ∙ sym c.atomic.ensures ∙ c.if-not-atomic.true

pub returns : goal.returns
returns c s h = (
  sym (drain-asked _ _ _ _ s h c.requires.2 c.args.e.0 c.requires.1) ∙ sym c.atomic.ensures ∙ c.if-not-atomic.false,
  refl,
  drain-holds _ _ _ _ s h c.requires.2 c.args.e.0 c.requires.1 _ _ c.one.ensures c.less-held.ensures,
)
