use Prim.Native.Nat.{◌<◌}
use native.Mathlib.Omega.{arith}
use lib.Bits.{or_lt, xor_lt}
use Rattle.masks.proofs.PartLaws.{lowest-room}
use Rattle.state_test.proofs.grow.Goals as goal
use Rattle.state_test.proofs.grow.Goals.{After-lowest_set-e}

-- an event is left
lowest : (c : After-lowest_set-e) → c.lowest_set-e.result < 32
lowest c = omega (arith, c.lowest_set-e.ensures, lowest-room c.loop.new c.if-new-eq0.false c.loop.invariant)

pub overflow_cast-e : goal.overflow_cast-e
overflow_cast-e c = omega (arith, lowest c)

pub wanted-requires : goal.wanted-requires
wanted-requires c = lowest c

pub one-requires : goal.one-requires
one-requires c = lowest (goal.at.one-requires c).After-lowest_set-e

pub loop-preserved : goal.loop-preserved
loop-preserved c = or_lt 32 _ _ (xor_lt 32 _ _ c.loop.invariant c.one.type_inv) c.less-more.type_inv
