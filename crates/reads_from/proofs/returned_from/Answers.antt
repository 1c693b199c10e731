use native.Mathlib.Omega.{arith}
use Rattle.reads_from.proofs.FromLaws.{from_at}
use Rattle.reads_from.proofs.returned_from.Goals as goal

pub returns : goal.returns
returns c = from_at _ _ (omega arith)
