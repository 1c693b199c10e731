use mathlib.Core.Path.{ap}
use lib.Bits.{bit_or}
use Rattle.table.specs.Annotations.{annotations}
use Rattle.synchronization.proofs.annotations.Goals as goal

pub returns : goal.returns
unfolding annotations
returns c = ap (bit_or c.args.e.flags) c.added.ensures
