use Prim.Native.Nat.{◌≤◌}
use native.Mathlib.Omega.{arith}
use mathlib.Core.Path.{refl, sym, subst, ◌∙◌}
use lib.ListN.{take}
use lib.Count.{ones-le}
use Rattle.successors.specs.CleanMasks.{slots}
use Rattle.successors.specs.Waiting.{Prepared}
use Rattle.witness_walk.specs.declared.Ending.TheVariants.{Found}
use Rattle.witness_walk.specs.Running.{AtMost}
use Rattle.witness_walk.proofs.FollowLaws.{holds-fitting}
use Rattle.outcome_listing.specs.Gathering.{NextLawful}
use Rattle.outcome_listing.proofs.StandLaws.{stands-first, stands-found, stands-end, stands-over, found_left, found-holds}
use Rattle.outcome_listing.proofs.gather.Goals as goal
use Rattle.outcome_listing.proofs.gather.Goals.{In-Found}

-- What is known once an order is found.
module _ (d : In-Found) where
  prepared : Prepared d.args.pred.now d.args.succ.now d.memory_mask-mem.result
  prepared = subst (Prepared _ _) (sym d.memory_mask-mem.ensures) d.requires.walks.1

  found : let v = d.loop-visited in
      NextLawful d.args.facts.now d.args.pred.now d.memory_mask-mem.result (take v.from.keep v.order) v.left
      d.next_lawful-ending.new.order (Found d.in-Found.len d.in-Found.visited)
  found = subst (NextLawful _ _ _ _ _ _) d.in-Found.is d.next_lawful-ending.ensures.next_lawful

  short : d.in-Found.len ≤ slots
  short =
      let a : AtMost _ (Found d.in-Found.len d.in-Found.visited) = subst (AtMost _) d.in-Found.is d.next_lawful-ending.ensures.order_len.1 in
      omega (arith, a, ones-le 32 d.memory_mask-mem.result (omega (arith, prepared.small)))

pub memory_mask-mem-requires : goal.memory_mask-mem-requires
memory_mask-mem-requires c = omega (arith, c.requires.walks.0.known.table.small.events)

pub loop-visited-init : goal.loop-visited-init
loop-visited-init c w m = let b = c.before_all-from.ensures in
    (stands-first w m _ _ _ _ _ _ refl b.0 b.1 b.2 b.3, omega arith, refl)

pub next_lawful-ending-requires : goal.next_lawful-ending-requires
next_lawful-ending-requires c = let m = c.memory_mask-mem.ensures in
    let i = (c.loop-visited.invariant c.requires.walks.0 m).0 in
    record { prepared = (subst (Prepared _ _) (sym m) c.requires.walks.1, i.holds); later_value = i.later }

pub returns-in-NoneLeft : goal.returns-in-NoneLeft
returns-in-NoneLeft c = let m = c.memory_mask-mem.ensures in
    let i = c.loop-visited.invariant c.requires.walks.0 m in record {
      gathers = stands-end c.requires.walks.0 m _ _ _ i.0 _ c.next_lawful-ending.new.order
          (subst (NextLawful _ _ _ _ _ _) c.in-NoneLeft.is c.next_lawful-ending.ensures.next_lawful);
      within = (i.1, i.2);
    }

pub returns-in-Spent : goal.returns-in-Spent
returns-in-Spent c = let m = c.memory_mask-mem.ensures in
    let i = c.loop-visited.invariant c.requires.walks.0 m in record {
      gathers = stands-over c.requires.walks.0 m _ _ _ i.0 c.in-Spent.len c.in-Spent.visited c.next_lawful-ending.new.order
          (subst (NextLawful _ _ _ _ _ _) c.in-Spent.is c.next_lawful-ending.ensures.next_lawful);
      within = (tt, i.2);
    }

pub overflow_sub-left : goal.overflow_sub-left
overflow_sub-left c = let w = c.requires.walks.0 in
    (found_left w c.memory_mask-mem.ensures _ _ _ (c.loop-visited.invariant w c.memory_mask-mem.ensures).0 c.in-Found.len c.in-Found.visited _ (found c) c.next_lawful-ending.ensures.order_len.0 (short c)).1

pub note-n-requires : goal.note-n-requires
note-n-requires c = let w = c.requires.walks.0 in
    let i = c.loop-visited.invariant w c.memory_mask-mem.ensures in
    let h = found-holds w c.memory_mask-mem.ensures _ _ _ i.0 c.in-Found.len c.in-Found.visited _ (found (goal.at.note-n-requires c).In-Found) c.next_lawful-ending.ensures.order_len.0 (short (goal.at.note-n-requires c).In-Found) in
    record { fitting = ((holds-fitting (prepared (goal.at.note-n-requires c).In-Found) h).0, w.known.table.small.locations); n_le_room = (i.1, omega (arith, c.requires.readers_value.1, i.2)) }

pub loop-visited-smaller : goal.loop-visited-smaller
loop-visited-smaller c = let w = c.requires.walks.0 in
    let l = found_left w c.memory_mask-mem.ensures _ _ _ (c.loop-visited.invariant w c.memory_mask-mem.ensures).0 c.in-Found.len c.in-Found.visited _ (found (goal.at.loop-visited-smaller c).In-Found) c.next_lawful-ending.ensures.order_len.0 (short (goal.at.loop-visited-smaller c).In-Found) in
    omega (arith, l.0, l.1)

pub loop-visited-preserved : goal.loop-visited-preserved
loop-visited-preserved c w m = let n = c.note-n in
    let b = c.behind-from.ensures in
    let i = c.loop-visited.invariant w m in (
      stands-found w m _ _ _ i.0 c.in-Found.len c.in-Found.visited _ (found (goal.at.loop-visited-preserved c).In-Found) c.next_lawful-ending.ensures.order_len.0 (short (goal.at.loop-visited-preserved c).In-Found) n.result _
          c.args.asked refl c.requires.readers_value.0 n.ensures.notes c.behind-from.result b.0 b.1 b.2 b.3,
      n.ensures.upper_bound.0,
      n.ensures.upper_bound.1 ∙ i.2,
    )

pub shape_of-kept-in-NoneLeft : goal.shape_of-kept-in-NoneLeft
shape_of-kept-in-NoneLeft c = (c.loop-visited.invariant c.requires.walks.0 c.memory_mask-mem.ensures).2

pub shape_of-kept-in-Spent : goal.shape_of-kept-in-Spent
shape_of-kept-in-Spent c = (c.loop-visited.invariant c.requires.walks.0 c.memory_mask-mem.ensures).2
