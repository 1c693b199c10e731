use mathlib.Core.Path.{ap}
use lib.ListN.{get_or}
use lib.Bits.{bit_and, bit_or, bit_xor}
use Rattle.ready_events.proofs.take_back.Goals as goal

pub returns : goal.returns
returns c = let v = c.args in
    let one = c.one-b.ensures in
    record { placed_value = ap (bit_xor v.placed) one; can_value = ap (bit_or (bit_xor v.can (bit_and v.can (get_or v.succ.now v.e 0)))) one }
