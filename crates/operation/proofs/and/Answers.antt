use native.Mathlib.Omega.{arith}
use Rattle.operation.proofs.BitwiseLaws.{is-anded}
use Rattle.operation.proofs.and.Goals as goal

pub returns : goal.returns
returns c = rw c.from.ensures (is-anded _ _ (omega arith))
