-- The operations on bits are those of the machine.
use Prim.Native.Nat.{ℕ, ◌^◌, ◌<◌}
use mathlib.Core.Path.{◌≡◌, sym, ap, ◌∙◌}
use mathlib.Core.Bool.{Bool, ◌&&◌, ◌||◌, xor}
use native.Mathlib.Omega.{arith}
use lib.Bits.{bit_and, bit_or, bit_xor, and_le_l, or_lt, xor_lt}
use borrow.Author.Tests.{lt-ltb}
use Rattle.masks.specs.Bit.{bit}
use Rattle.masks.proofs.BitLaws.{bit-and, bit-or, bit-xor, bit-ext}
use Rattle.masks.proofs.MaskOfLaws.{mask_below, mask-below-lt}
use Rattle.operation.specs.Operation.{width, bitwise, anded, ored, xored}

-- a value whose bits are f's is the value of f
is-bitwise : (n : ℕ) (f : ℕ → Bool) → n < 2 ^ width → ((k : ℕ) → bit n k ≡ f k) → n ≡ bitwise f
is-bitwise n f h e =
    bit-ext width n (bitwise f) h (mask-below-lt f width width (omega arith))
    (λ k l. e k ∙ sym (mask_below f width k ∙ ap (λ (b : Bool). b && f k) (lt-ltb k width l)))

pub is-anded : (a b : ℕ) → a < 2 ^ width → bit_and a b ≡ anded a b
unfolding anded
is-anded a b h = is-bitwise (bit_and a b) (λ k. bit a k && bit b k) (omega (arith, and_le_l a b)) (bit-and a b)

pub is-ored : (a b : ℕ) → a < 2 ^ width → b < 2 ^ width → bit_or a b ≡ ored a b
unfolding ored
is-ored a b h g = is-bitwise (bit_or a b) (λ k. bit a k || bit b k) (or_lt width a b h g) (bit-or a b)

pub is-xored : (a b : ℕ) → a < 2 ^ width → b < 2 ^ width → bit_xor a b ≡ xored a b
unfolding xored
is-xored a b h g = is-bitwise (bit_xor a b) (λ k. xor (bit a k) (bit b k)) (xor_lt width a b h g) (bit-xor a b)
