use Prim.Native.Nat.{◌+◌}
use mathlib.Core.Path.{sym}
use native.Mathlib.Omega.{arith}
use Rattle.checksum.specs.Lanes.{plain}
use Rattle.checksum.proofs.LaneLaws.{row-lanes}
use Rattle.checksum.proofs.row.Goals as goal

-- `row`: four bytes side by side.
pub returns : goal.returns
unfolding plain
returns c = let at = c.args.at in
    let byte = c.type_inv.s in
    rw (c.from.ensures, c.from-2.ensures, c.from-3.ensures, c.from-4.ensures)
    record { bytes = sym (row-lanes at _ c.requires); small = omega (arith, byte at, byte (at + 1), byte (at + 2), byte (at + 3)) }
