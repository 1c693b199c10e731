use Prim.Native.Nat.{◌-◌}
use lib.ListN.{length}
use Rattle.text_lines.proofs.RowLaws.{Values}
use Rattle.text_lines.proofs.read_values.Given as goal

abbrev pub invariant-loop-number : goal.invariant-loop-number
invariant-loop-number l = Values l.text l.from l.at l.count l.initial'

abbrev pub decreases-loop-number : goal.decreases-loop-number
decreases-loop-number l = length l.text - l.at
