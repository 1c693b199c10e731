use Prim.Native.Nat.{◌-◌, ◌<◌}
use mathlib.Core.Path.{◌≡◌, refl}
use native.Mathlib.Omega.{arith}
use lib.ListN.{get_or}
use lib.Count.{count_trailing_zeros}
use Rattle.successors.specs.CleanMasks.{slots, limit}
use Rattle.engine.proofs.StepLaws.{stand-room, stand-last, lowest-below, lowest-may, next-room}
use Rattle.witness_walk.proofs.WalkLaws.{Going, going_start, going-none, going-back, going-spent, going-fitting}
use Rattle.witness_walk.proofs.WalkLaws.{going-found, going-past, going-whole, going_on}
use Rattle.witness_walk.proofs.walk.Goals as goal
use Rattle.witness_walk.proofs.walk.Goals.{After-lowest_set-e, Else-keep-eq0}

-- the last entry is an event
last-event : (c : Else-keep-eq0) →
    get_or c.loop-later.order (c.loop-later.keep - 1) 0 < limit
last-event c = stand-last c.loop-later.invariant.stands (omega arith) refl

-- What is known once the next event is chosen.
module _ (d : After-lowest_set-e) where
  inv : let v = d.loop-later in
      let a = d.args in
      Going a.facts.now a.words.now a.pred.now a.succ.now a.mem a.watched a.order.now a.goods.now a.from.keep
      a.from.masks.can a.from.later a.budget v.order v.goods v.seen v.kept v.keep v.masks.placed v.masks.can v.later
      v.last v.visited
  inv = d.loop-later.invariant

  some : d.loop-later.later ≡ 0 → ⊥
  some = d.if-later-eq0.false

  low : d.lowest_set-e.result ≡ count_trailing_zeros slots d.loop-later.later
  low = d.lowest_set-e.ensures

  left : d.loop-later.visited ≡ d.args.budget → ⊥
  left = d.if-visited-budget.false

  -- it is one of the events
  event : d.lowest_set-e.result < limit
  event = lowest-below inv.stands some low

pub loop-later-init : goal.loop-later-init
loop-later-init c = going_start _ c.requires.prepared.0 c.requires.prepared.1 c.requires.fact.0 c.requires.fact.1 refl c.first-kept.ensures

pub returns-then-keep-eq0 : goal.returns-then-keep-eq0
returns-then-keep-eq0 c = let w = going-none c.loop-later.invariant c.if-later-eq0.true c.if-keep-eq0.true in
    record { runs = w.0; order_len = w.1 }

pub bounds-order-keep : goal.bounds-order-keep
bounds-order-keep c = omega (arith, stand-room c.loop-later.invariant.stands)

pub take_back-masks-requires : goal.take_back-masks-requires
take_back-masks-requires c = omega (arith, last-event (goal.at.take_back-masks-requires c).Else-keep-eq0)

pub past-later-requires : goal.past-later-requires
past-later-requires c = rw c.from-e.ensures (last-event (goal.at.past-later-requires c).Else-keep-eq0)

pub loop-later-preserved-then-later-eq0 : goal.loop-later-preserved-then-later-eq0
loop-later-preserved-then-later-eq0 c = let b = c.take_back-masks.ensures in
    going-back c.loop-later.invariant c.if-later-eq0.true (omega arith) c.from-e.ensures b.placed_value b.can_value c.past-later.ensures

pub returns-then-visited-budget : goal.returns-then-visited-budget
returns-then-visited-budget c = let w = going-spent c.loop-later.invariant c.if-later-eq0.false refl _ c.spent.ensures c.if-visited-budget.true in
    record { runs = w.0; order_len = w.1 }

pub overflow_cast-order : goal.overflow_cast-order
overflow_cast-order c = omega (arith, event c)

pub bounds-order-keep-in-loop-later : goal.bounds-order-keep-in-loop-later
bounds-order-keep-in-loop-later c = stand-room c.loop-later.invariant.stands

pub one-b-requires : goal.one-b-requires
one-b-requires c = omega (arith, event (goal.at.one-b-requires c).After-lowest_set-e)

pub offset_bounds-goods-keep : goal.offset_bounds-goods-keep
offset_bounds-goods-keep c = omega (arith, stand-room c.loop-later.invariant.stands)

pub bounds-goods-keep : goal.bounds-goods-keep
bounds-goods-keep c = stand-room c.loop-later.invariant.stands

pub overflow_cast-e : goal.overflow_cast-e
overflow_cast-e c = omega (arith, event (goal.at.overflow_cast-e c).After-lowest_set-e)

pub enters-requires : goal.enters-requires
enters-requires c = omega (arith, event (goal.at.enters-requires c).After-lowest_set-e)

pub loop-later-preserved-then-not-enters : goal.loop-later-preserved-then-not-enters
loop-later-preserved-then-not-enters c = going-past (inv (goal.at.loop-later-preserved-then-not-enters c).After-lowest_set-e) (some (goal.at.loop-later-preserved-then-not-enters c).After-lowest_set-e) (low (goal.at.loop-later-preserved-then-not-enters c).After-lowest_set-e) (left (goal.at.loop-later-preserved-then-not-enters c).After-lowest_set-e) refl c.one-b.ensures refl _ c.enters.ensures c.if-not-enters.true

pub overflow_add-keep : goal.overflow_add-keep
overflow_add-keep c = omega (arith, stand-room (inv (goal.at.overflow_add-keep c).After-lowest_set-e).stands)

pub is_witness-requires : goal.is_witness-requires
is_witness-requires c = (going-fitting (inv (goal.at.is_witness-requires c).After-lowest_set-e) (some (goal.at.is_witness-requires c).After-lowest_set-e) (low (goal.at.is_witness-requires c).After-lowest_set-e) (left (goal.at.is_witness-requires c).After-lowest_set-e) refl c.one-b.ensures, (inv (goal.at.is_witness-requires c).After-lowest_set-e).sighted)

pub returns-then-is_witness : goal.returns-then-is_witness
returns-then-is_witness c = let w = going-found (inv (goal.at.returns-then-is_witness c).After-lowest_set-e) (some (goal.at.returns-then-is_witness c).After-lowest_set-e) (low (goal.at.returns-then-is_witness c).After-lowest_set-e) (left (goal.at.returns-then-is_witness c).After-lowest_set-e) refl c.one-b.ensures _ c.is_witness.new.seen
    c.is_witness.new.kept c.if-last-mem.true c.is_witness.ensures.witnesses c.if-is_witness.true _ c.found.ensures in
    record { runs = w.0; order_len = w.1 }

pub loop-later-preserved-then-last-mem : goal.loop-later-preserved-then-last-mem
loop-later-preserved-then-last-mem c = going-whole (inv (goal.at.loop-later-preserved-then-last-mem c).After-lowest_set-e) (some (goal.at.loop-later-preserved-then-last-mem c).After-lowest_set-e) (low (goal.at.loop-later-preserved-then-last-mem c).After-lowest_set-e) (left (goal.at.loop-later-preserved-then-last-mem c).After-lowest_set-e) refl c.one-b.ensures refl _ c.is_witness.new.seen
    c.is_witness.new.kept c.if-last-mem.true c.is_witness.ensures.witnesses c.if-is_witness.false c.is_witness.ensures.seen_len

pub overflow_cast-e-in-loop-later : goal.overflow_cast-e-in-loop-later
overflow_cast-e-in-loop-later c = omega (arith, event (goal.at.overflow_cast-e-in-loop-later c).After-lowest_set-e)

pub note_good-requires : goal.note_good-requires
note_good-requires c = ((inv (goal.at.note_good-requires c).After-lowest_set-e).long, next-room (inv (goal.at.note_good-requires c).After-lowest_set-e).stands (some (goal.at.note_good-requires c).After-lowest_set-e) (low (goal.at.note_good-requires c).After-lowest_set-e) refl c.one-b.ensures, omega (arith, event (goal.at.note_good-requires c).After-lowest_set-e))

pub place-masks-requires : goal.place-masks-requires
place-masks-requires c = ((inv (goal.at.place-masks-requires c).After-lowest_set-e).stands.tables, (inv (goal.at.place-masks-requires c).After-lowest_set-e).stands.holds.current, lowest-may (inv (goal.at.place-masks-requires c).After-lowest_set-e).stands (some (goal.at.place-masks-requires c).After-lowest_set-e) (low (goal.at.place-masks-requires c).After-lowest_set-e))

pub overflow_add-keep-in-loop-later : goal.overflow_add-keep-in-loop-later
overflow_add-keep-in-loop-later c = omega (arith, stand-room (inv (goal.at.overflow_add-keep-in-loop-later c).After-lowest_set-e).stands)

pub loop-later-preserved : goal.loop-later-preserved
loop-later-preserved c = going_on (inv (goal.at.loop-later-preserved c).After-lowest_set-e) (some (goal.at.loop-later-preserved c).After-lowest_set-e) (low (goal.at.loop-later-preserved c).After-lowest_set-e) (left (goal.at.loop-later-preserved c).After-lowest_set-e) refl c.one-b.ensures _ c.enters.ensures
    c.if-not-enters.false c.if-last-mem.false c.note_good.ensures c.place-masks.ensures.0
    c.place-masks.ensures.1
