use Prim.Native.Nat.{◌-◌}
use lib.ListN.{length}
use Rattle.text_lines.proofs.RowLaws.{Lines}
use Rattle.text_lines.proofs.read_events.Given as goal

abbrev pub invariant-loop-at : goal.invariant-loop-at
invariant-loop-at l = Lines l.text l.at l.count l.events

abbrev pub decreases-loop-at : goal.decreases-loop-at
decreases-loop-at l = length l.text - l.at
