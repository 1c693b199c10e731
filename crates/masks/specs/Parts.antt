-- Parts of a mask.
use Rattle.std.specs.Prelude.{ℕ, ◌-◌, ◌*◌, ◌/◌, ◌^◌}
use Rattle.std.specs.Int.Bits.{bit_xor}
use Rattle.std.specs.Int.Count.{count_leading_zeros}

-- the bits of m from bit n on, and those below it
abbrev pub from : ℕ → ℕ → ℕ
from n m = m / 2 ^ n * 2 ^ n

abbrev pub under : ℕ → ℕ → ℕ
under n m = bit_xor m (from n m)

-- the highest bit that is set in a mask of 32; it isn't 0
abbrev pub highest : ℕ → ℕ
highest m = 31 - count_leading_zeros 32 m
