use Prim.Native.Nat.{◌-◌}
use lib.ListN.{length}
use Rattle.model.specs.Rules.{initially}
use Rattle.model.specs.Returns.{visible}
use Rattle.lists.proofs.LastLaws.{LastSoFar}
use Rattle.returns.proofs.return_of.Given as goal

abbrev pub invariant-loop-w : goal.invariant-loop-w
invariant-loop-w l = LastSoFar (visible l.t l.gmo l.r.0) initially l.gmo l.latest l.w-index
