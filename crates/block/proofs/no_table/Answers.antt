use mathlib.Core.Path.{refl}
use Rattle.block.proofs.no_table.Goals as goal

pub returns : goal.returns
returns c = rw c.no_event.ensures refl
