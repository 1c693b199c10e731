use Rattle.table.proofs.SameFields.{table_same}
use mathlib.Core.Path.{refl}
use Rattle.decode.specs.Decoded.{initial_of, final_of, headed}
use Rattle.decode.proofs.headed.Goals as goal

-- `headed`: each part is what its reader gave.
pub returns : goal.returns
unfolding headed initial_of final_of
returns c = table_same _ _ c.byte_at.ensures
    c.byte_at-2.ensures c.byte_at-3.ensures
    c.byte_at-4.ensures c.byte_at-5.ensures c.values.ensures refl c.values-2.ensures
