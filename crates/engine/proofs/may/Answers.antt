use mathlib.Core.Path.{sym, ◌∙◌}
use borrow.Author.Tests.{le-ltb}
use native.Mathlib.Omega.{arith}
use Rattle.masks.proofs.BitLaws.{bit_past}
use Rattle.successors.specs.CleanMasks.{slots}
use Rattle.engine.proofs.may.Goals as goal

pub returns-else-from-lt-SLOTS : goal.returns-else-from-lt-SLOTS
returns-else-from-lt-SLOTS c =
    le-ltb _ _ c.if-from-lt-SLOTS.false ∙ sym (bit_past slots _ _ c.ranges.m.fits (omega arith))
