use Prim.Native.Nat.{◌<◌}
use mathlib.Core.Path.{refl, ap}
use native.Mathlib.Omega.{arith}
use lib.Bits.{bit_or}
use Rattle.successors.specs.CleanMasks.{limit}
use Rattle.ready_events.proofs.KeptLaws.{can-below}
use Rattle.ready_events.proofs.KeptLaws.{place-current}
use Rattle.ready_events.proofs.place.Goals as goal
use Rattle.ready_events.proofs.place.Goals.{Start}

-- e is an event
below : (c : Start) → c.args.e < limit
below c = can-below c.requires.0 _ _ _ c.requires.1 c.requires.2

pub one-b-requires : goal.one-b-requires
one-b-requires c = omega (arith, below c)

pub bounds-succ-e : goal.bounds-succ-e
bounds-succ-e c = omega (arith, below (goal.at.bounds-succ-e c).Start)

pub returns : goal.returns
returns c = let v = c.args in
    let b = c.one-b in
    let waits = c.requires.0.waiting v.e (omega (arith, below (goal.at.returns c).Start)) in
    let now = bit_or v.placed b.result in (
      ap (bit_or v.placed) b.ensures,
      place-current _ _ v.placed v.can v.e b.result now _ _ c.requires.1 c.requires.2 waits b.ensures refl
          c.ready_of-found.ensures,
    )
