use mathlib.Core.Path.{ap}
use lib.Bits.{bit_xor}
use Rattle.masks.proofs.under.Goals as goal

pub returns : goal.returns
returns c = ap (bit_xor c.args.m) c.from.ensures
