use Prim.Native.Nat.{suc, ◌-◌, ◌≤◌, ◌<◌}
use native.Mathlib.Omega.{arith}
use mathlib.Core.Path.{◌≡◌, ap, ◌∙◌}
use Rattle.lists.proofs.PaddedLaws.{pad-start, pad-more, pad-end}
use Rattle.table.specs.Events.{capacity, event, hart, location}
use Rattle.order_facts.specs.Facts.{own_writer, needed, grounds, guards, here, right, peers}
use Rattle.fact_rows.specs.declared.Around.{Around}
use Rattle.facts.proofs.RowsLaws.{row_at, ground-at, guards-at, windows-are, right-at}
use Rattle.facts.proofs.of_table.Goals as goal
use Rattle.facts.proofs.of_table.Goals.{After-around-a, In-loop-e}

-- the events are few
few : (c : In-loop-e) → suc c.loop-e.e < capacity
few c = omega (arith, c.loop-e-test.true, c.requires.0.small.events)

-- and the one looked at is among them
numbered : (c : After-around-a) → (c.around-a.result.number < capacity) × (c.around-a.result.count < capacity)
numbered c =
    let q : c.around-a.result.number ≡ c.loop-e.e = ap (λ (a : Around). a.number) c.around-a.ensures in
    let n : c.around-a.result.count ≡ c.args.t.count = ap (λ (a : Around). a.count) c.around-a.ensures in
    (omega (arith, c.loop-e-test.true, c.requires.0.small.events), omega (arith, c.requires.0.small.events))

pub filled-windows-requires : goal.filled-windows-requires
filled-windows-requires c = omega (arith, c.requires.0.small.events)

pub loop-e-init : goal.loop-e-init
loop-e-init c = record {
  own-so-far = pad-start _ _ _;
  needs-so-far = pad-start _ _ _;
  ground-so-far = pad-start _ _ _;
  guards-so-far = pad-start _ _ _;
  here-so-far = pad-start _ _ _;
  right-so-far = pad-start _ _ _;
  peers-so-far = pad-start _ _ _;
}

pub around-a-requires : goal.around-a-requires
unfolding event hart location
around-a-requires c = let small = c.requires.0.small in
    (small.each-hart c.loop-e.e c.loop-e-test.true, small.each-location c.loop-e.e c.loop-e-test.true)

pub own_row-requires : goal.own_row-requires
own_row-requires c = (numbered c).0

pub needs_row-requires : goal.needs_row-requires
needs_row-requires c = numbered (goal.at.needs_row-requires c).After-around-a

pub ground_row-requires : goal.ground_row-requires
ground_row-requires c = (numbered (goal.at.ground_row-requires c).After-around-a).0

pub offset_bounds-right-k : goal.offset_bounds-right-k
offset_bounds-right-k c = record { fits = omega (arith, few (goal.at.offset_bounds-right-k c).In-loop-e) }

pub bounds-right-k : goal.bounds-right-k
bounds-right-k c = omega (arith, few (goal.at.bounds-right-k c).In-loop-e)

pub peer_row-requires : goal.peer_row-requires
peer_row-requires c = (numbered (goal.at.peer_row-requires c).After-around-a).0

pub offset_bounds-peers-k : goal.offset_bounds-peers-k
offset_bounds-peers-k c = record { fits = omega (arith, few (goal.at.offset_bounds-peers-k c).In-loop-e) }

pub bounds-peers-k : goal.bounds-peers-k
bounds-peers-k c = omega (arith, few (goal.at.bounds-peers-k c).In-loop-e)

pub loop-e-preserved : goal.loop-e-preserved
unfolding event
loop-e-preserved c = let t = c.args.t in
    let good = c.requires.0 in
    let sets = c.requires.1 in
    let v = c.loop-e in
    let l = c.loop-e-test.true in
    let room : t.count ≤ capacity = omega (arith, good.small.events) in
    let a = c.around-a.ensures in
    let readers = row_at t _ sets good v.e l _ a here _ c.here_row-readers.ensures in
    record {
      own-so-far =
          pad-more _ _ _ _ _ _ room v.invariant.own-so-far l
          (row_at t _ sets good v.e l _ a own_writer _ c.own_row.ensures);
      needs-so-far =
          pad-more _ _ _ _ _ _ room v.invariant.needs-so-far l
          (row_at t _ sets good v.e l _ a needed _ c.needs_row.ensures);
      ground-so-far =
          pad-more _ _ _ _ _ _ room v.invariant.ground-so-far l
          (ground-at t _ sets good v.e l _ a _ _ c.look-seen.ensures.window_value.0 c.ground_row.ensures);
      guards-so-far =
          pad-more _ _ _ _ _ _ room v.invariant.guards-so-far l
          (guards-at t _ sets good v.e l _ a _ _
          (windows-are t room _ _ c.look-seen.ensures.window_value.0 c.filled-windows.ensures) c.guard_row.ensures);
      here-so-far = pad-more _ _ _ _ _ _ room v.invariant.here-so-far l readers;
      right-so-far =
          pad-more _ _ _ _ _ _ room v.invariant.right-so-far l
          (right-at t room v.e _ _ _ c.look-seen.ensures.window_value.1 readers c.right_row.ensures);
      peers-so-far =
          pad-more _ _ _ _ _ _ room v.invariant.peers-so-far l (row_at t _ sets good v.e l _ a peers _ c.peer_row.ensures);
    }

pub returns : goal.returns
returns c = let v = c.loop-e.invariant in
    let l = c.loop-e-test.false in
    let words = c.words-sets.ensures in
    record {
      table = c.requires.0;
      own = pad-end _ _ _ _ _ v.own-so-far l;
      needs = pad-end _ _ _ _ _ v.needs-so-far l;
      windows = c.look-seen.ensures.window_value.0;
      grounds = pad-end _ _ _ _ _ v.ground-so-far l;
      guards = pad-end _ _ _ _ _ v.guards-so-far l;
      here = pad-end _ _ _ _ _ v.here-so-far l;
      right = pad-end _ _ _ _ _ v.right-so-far l;
      peers = pad-end _ _ _ _ _ v.peers-so-far l;
      good = words.0 ∙ c.look-seen.ensures.good_value.0;
      wrong = words.1 ∙ c.look-seen.ensures.good_value.1;
      unmet = words.2 ∙ c.unmet_word.ensures;
    }
