use native.Mathlib.Omega.{arith}
use mathlib.Core.Path.{ap}
use lib.Pow.{pow_pos}
use Rattle.std.proofs.Common.{◌<◌, ◌^◌, ◌≡◌}
use Rattle.std.specs.Int.Bits.{bit_xor}
use Rattle.masks.specs.Bit.{bit}
use mathlib.Core.Bool.{true}
use Rattle.masks.proofs.PowerLaws.{xor-pow, trailing-lowest}
use Rattle.masks.proofs.OnesIterator.next.Goals as goal
use Rattle.masks.proofs.OnesIterator.next.Goals.{After-lowest_set-e}

-- the lowest bit is one of the mask's
lowest : (c : After-lowest_set-e) → (c.lowest_set-e.result < 32) × (bit c.args.self.now.0 c.lowest_set-e.result ≡ true)
lowest c =
    let m = c.args.self.now.0 in
    let fits : m < 2 ^ 32 = omega arith in
    let t = trailing-lowest 32 m (omega arith) fits in
    rw c.lowest_set-e.ensures (t.0, t.1)

pub one-requires : goal.one-requires
one-requires c = (lowest (goal.at.one-requires c).After-lowest_set-e).0

pub returns-clause-steps : goal.returns-clause-steps
returns-clause-steps c = record {
  some = omega arith;
  fits = (lowest (goal.at.returns-clause-steps c).After-lowest_set-e).0;
  lowest = c.lowest_set-e.ensures;
  rest = ap (bit_xor c.args.self.now.0) c.one.ensures;
}

-- A bit less is left.
pub returns-clause-goes : goal.returns-clause-goes
returns-clause-goes c =
    let m = c.args.self.now.0 in
    let e = c.lowest_set-e.result in
    let less : bit_xor m c.one.result < m =
    rw c.one.ensures (omega (arith, xor-pow m e (lowest (goal.at.returns-clause-goes c).After-lowest_set-e).1, pow_pos e)) in
    record { on = λ _. (tt, tt, less); keeps = tt; rests = λ _. tt }
