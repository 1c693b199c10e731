use native.Mathlib.Omega.{arith}
use mathlib.Core.Path.{◌≡◌, refl}
use lib.ListN.{length, length-set}
use Rattle.lists.proofs.FilledLaws.{up_to-more}
use Rattle.advising.proofs.TurnLaws.{turned_as, with-events}
use Rattle.lists.specs.Filled.{up_to}
use Rattle.table.specs.Events.{capacity, event}
use Rattle.advising.proofs.with_fences.Goals as goal
use Rattle.advising.proofs.with_fences.Goals.{Start}

-- the table has its slots
slots : (c : Start) → length c.args.t.events ≡ capacity
slots c = c.well_formed.0.1.1.1.1.1.1.1.1.0.1.0.1

pub loop-k-init : goal.loop-k-init
unfolding up_to
loop-k-init c = (omega arith, slots (goal.at.loop-k-init c).Start, refl)

pub loop-k-preserved : goal.loop-k-preserved
unfolding event
loop-k-preserved c = let v = c.loop-k in (
  omega arith,
  simp length-set v.invariant.1,
  up_to-more _ v.events v.k (omega arith) v.invariant.2
      (turned_as c.args.t _ v.k (omega arith) c.has.ensures c.turned.ensures),
)

pub returns : goal.returns
returns c = let v = c.loop-k in with-events _ _ v.events v.k v.invariant.2 (omega arith) v.invariant.0 v.invariant.1 (slots (goal.at.returns c).Start)
