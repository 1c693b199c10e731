use mathlib.Core.Path.{refl}
use native.Mathlib.Omega.{arith}
use Rattle.table.specs.Events.{event}
use Rattle.table_lines.proofs.AsBlockLaws.{turn-start, turn_more, turn_end}
use Rattle.table_lines.proofs.table_as_block.Goals as goal

pub loop-k-init : goal.loop-k-init
loop-k-init c = (omega arith, turn-start _ c.well_formed.0.1.1.1.1.1.1.1.1.0.1.0.1)

pub loop-k-preserved : goal.loop-k-preserved
unfolding event
loop-k-preserved c = let v = c.loop-k in
    rw c.from-slot.ensures (omega arith, turn_more _ v.k v.events _ v.invariant.1 (omega arith) (rw c.from-slot.ensures at c.as_block.ensures))

pub returns : goal.returns
unfolding event
returns c = let v = c.loop-k in
    record {
      harts = refl;
      locations = refl;
      count = refl;
      stated = refl;
      model = refl;
      initial = refl;
      finals = refl;
      events = turn_end _ v.k v.events v.invariant.1 (omega arith);
    }
