use native.Mathlib.Omega.{arith}
use Rattle.operation.proofs.BitwiseLaws.{is-ored}
use Rattle.operation.proofs.or.Goals as goal

pub returns : goal.returns
returns c = rw c.from.ensures (is-ored _ _ (omega arith) (omega arith))
