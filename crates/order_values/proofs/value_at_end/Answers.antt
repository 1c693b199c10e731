use native.Mathlib.Omega.{arith}
use Rattle.order_values.proofs.EndLaws.{end-told}
use Rattle.order_values.proofs.value_at_end.Goals as goal

pub returns : goal.returns
returns c = let told = rw c.from.ensures at c.last_left.ensures in
    record { ends_by = end-told _ _ _ _ _ _ _ c.requires.0 told.value_value told.behind; depth_le_capacity = omega (arith, told.behind.0, c.requires.0.within) }
