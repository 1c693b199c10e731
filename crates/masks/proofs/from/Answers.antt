use native.Mathlib.Nat.{lt_of_le_of_lt, div-mul-le_self, mod-eq_of_lt}
use Rattle.masks.proofs.from.Goals as goal

pub returns : goal.returns
returns c = mod-eq_of_lt (lt_of_le_of_lt (div-mul-le_self _ _) c.ranges.m.fits)
