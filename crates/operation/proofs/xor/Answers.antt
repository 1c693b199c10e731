use native.Mathlib.Omega.{arith}
use Rattle.operation.proofs.BitwiseLaws.{is-xored}
use Rattle.operation.proofs.xor.Goals as goal

pub returns : goal.returns
returns c = rw c.from.ensures (is-xored _ _ (omega arith) (omega arith))
