use Prim.Native.Nat.{◌-◌, ◌≤◌, ◌<◌}
use native.Mathlib.Omega.{arith}
use mathlib.Core.Path.{◌≡◌, refl, ap}
use Rattle.lists.proofs.PaddedLaws.{pad-start, pad-more, pad-end}
use Rattle.masks.proofs.GatherLaws.{gather-start, gather-more, gather-end}
use Rattle.edition.specs.Limits.{max_locations}
use Rattle.table.specs.Events.{capacity, event, hart, location}
use Rattle.table.proofs.EventTests.{of_events}
use Rattle.model.specs.Returns.{initial_value}
use Rattle.order_facts.specs.Facts.{mask_by, good, wrong}
use Rattle.fact_rows.specs.declared.Around.{Around}
use Rattle.facts.proofs.RowsLaws.{window-at}
use Rattle.facts.proofs.look.Goals as goal
use Rattle.facts.proofs.look.Goals.{In-loop-e}

-- the events are few
few : (c : In-loop-e) → c.loop-e.e < capacity
few c = omega (arith, c.loop-e-test.true, c.requires.0.small.events)

-- the event's location has room in the arrays
located : (c : In-loop-e) → location c.args.t c.loop-e.e < max_locations
located c = c.requires.0.small.each-location c.loop-e.e c.loop-e-test.true

pub loop-e-init : goal.loop-e-init
loop-e-init c = record {
  windows-so-far = pad-start _ _ _;
  values-so-far = pad-start _ _ _;
  good-so-far = gather-start _ _;
  wrong-so-far = gather-start _ _;
}

pub around-a-requires : goal.around-a-requires
unfolding event hart location
around-a-requires c = let small = c.requires.0.small in
    (small.each-hart c.loop-e.e c.loop-e-test.true, small.each-location c.loop-e.e c.loop-e-test.true)

pub window_row-requires : goal.window_row-requires
window_row-requires c = let q : c.around-a.result.number ≡ c.loop-e.e = ap (λ (a : Around). a.number) c.around-a.ensures in
    omega (arith, c.loop-e-test.true, c.requires.0.small.events)

pub bounds-t-k : goal.bounds-t-k
unfolding location event
bounds-t-k c = located (goal.at.bounds-t-k c).In-loop-e

pub writes_stated-requires : goal.writes_stated-requires
unfolding location event
writes_stated-requires c = located (goal.at.writes_stated-requires c).In-loop-e

pub bounds-t-k-in-loop-e : goal.bounds-t-k-in-loop-e
unfolding location event
bounds-t-k-in-loop-e c = located (goal.at.bounds-t-k-in-loop-e c).In-loop-e

pub one_if-wrong-requires : goal.one_if-wrong-requires
one_if-wrong-requires c = omega (arith, few (goal.at.one_if-wrong-requires c).In-loop-e)

pub loop-e-preserved : goal.loop-e-preserved
unfolding of_events good wrong initial_value
loop-e-preserved c = let v = c.loop-e in
    let pre = c.requires in
    let l = c.loop-e-test.true in
    let room : c.args.t.count ≤ capacity = omega (arith, pre.0.small.events) in
    record {
      windows-so-far =
          pad-more _ _ _ _ _ _ room v.invariant.windows-so-far l
          (window-at _ _ pre.1 pre.0 v.e l _ c.around-a.ensures _ c.window_row.ensures);
      values-so-far = pad-more _ _ _ _ _ _ room v.invariant.values-so-far l refl;
      good-so-far = gather-more _ _ _ _ _ v.invariant.good-so-far l (rw c.reads.ensures at c.one_if-good.ensures);
      wrong-so-far = gather-more _ _ _ _ _ v.invariant.wrong-so-far l (rw c.writes_stated.ensures at c.one_if-wrong.ensures);
    }

pub returns : goal.returns
unfolding mask_by
returns c = let v = c.loop-e.invariant in record { window_value = (pad-end _ _ _ _ _ v.windows-so-far (omega arith), pad-end _ _ _ _ _ v.values-so-far (omega arith)); good_value = (gather-end _ _ _ _ v.good-so-far (omega arith), gather-end _ _ _ _ v.wrong-so-far (omega arith)) }
