use Rattle.table.specs.Events.{capacity}
use Rattle.masks.proofs.PickLaws.{pick-start, pick_more, pick_end}
use Rattle.fact_rows.proofs.right_row.Goals as goal

pub loop-r-init : goal.loop-r-init
loop-r-init c = rw c.into_iter-r-iterator.ensures.into_iter_gives (pick-start _ capacity _ c.ranges.readers.fits)

pub loop-r-preserved : goal.loop-r-preserved
loop-r-preserved c =
    let s = c.in-Some.ensures.steps in
    rw (s.rest, ← c.one.ensures) (pick_more _ _ _ _ _ _ c.loop-r.invariant s.some s.lowest _ _ c.one.ensures c.mask_if-mask.ensures)

pub returns : goal.returns
returns c = pick_end _ capacity _ _ _ c.loop-r.invariant c.in-None.ensures.steps.0
