use Prim.Native.Nat.{◌-◌}
use lib.ListN.{length}
use Rattle.model.specs.Rules.{initially}
use Rattle.returns.specs.Writers.{writes_to}
use Rattle.lists.proofs.LastLaws.{LastSoFar}
use Rattle.returns.proofs.last_writer.Given as goal

abbrev pub invariant-loop-w : goal.invariant-loop-w
invariant-loop-w l = LastSoFar (writes_to l.t l.x.0) initially l.gmo l.latest l.w-index
