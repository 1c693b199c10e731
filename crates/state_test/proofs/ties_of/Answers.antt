use Prim.Native.Nat.{◌<◌}
use native.Mathlib.Omega.{arith}
use mathlib.Core.Path.{◌∙◌}
use Rattle.edition.specs.Limits.{max_locations}
use Rattle.table.specs.Events.{event, location}
use Rattle.lists.proofs.PaddedLaws.{pad-start, pad-more, pad-end}
use Rattle.state_test.proofs.TieLaws.{around-is, around-at, readers-are, writers-are}
use Rattle.state_test.proofs.ties_of.Goals as goal
use Rattle.state_test.proofs.ties_of.Goals.{In-loop-e}

-- the event's location has room in the sets
located : (c : In-loop-e) → location c.args.t c.loop-e.e < max_locations
located c = c.requires.0.small.each-location c.loop-e.e c.loop-e-test.true

pub loop-e-init : goal.loop-e-init
loop-e-init c = pad-start _ _ _

pub overflow_cast-place-in-loop-e : goal.overflow_cast-place-in-loop-e
unfolding location event
overflow_cast-place-in-loop-e c = omega (arith, located (goal.at.overflow_cast-place-in-loop-e c).In-loop-e)

pub offset_bounds-s-x : goal.offset_bounds-s-x
unfolding location event
offset_bounds-s-x c = omega (arith, located (goal.at.offset_bounds-s-x c).In-loop-e)

pub bounds-s-x : goal.bounds-s-x
unfolding location event
bounds-s-x c = located (goal.at.bounds-s-x c).In-loop-e

pub loop-e-preserved : goal.loop-e-preserved
unfolding location event
loop-e-preserved c = let t = c.args.t in
    let s = c.args.s in
    let pre = c.requires in
    pad-more _ _ _ _ _ _ (omega (arith, pre.0.small.events)) c.loop-e.invariant c.loop-e-test.true
    (around-is t s pre.1 pre.0.small _ c.loop-e-test.true _ c.memory_mask-memory.ensures)

pub returns : goal.returns
returns c facts f = let t = c.args.t in
    let s = c.args.s in
    let pre = c.requires in
    let words = c.words-kinds.ensures in
    record {
      known = f;
      before = c.predecessors-before.ensures;
      place = around-at t s pre.1 pre.0.small _ (pad-end _ _ _ _ _ c.loop-e.invariant (omega arith));
      memory = words.0 ∙ c.memory_mask-memory.ensures;
      writers = words.1 ∙ writers-are t s pre.1 pre.0.small;
      readers = words.2 ∙ readers-are t s pre.1 pre.0.small;
    }
