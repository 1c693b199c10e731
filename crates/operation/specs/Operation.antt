-- "AMOs carry their operation": what an AMO with an operation writes, of the value read and the operand alone.
use Rattle.std.specs.Prelude.{ℕ, ◌+◌, ◌%◌, Bool, cond, ◌&&◌, ◌||◌, eqb, ltb}
use Rattle.std.specs.Bool.{xor}
use Rattle.lists.specs.Below.{below}
use Rattle.lists.specs.Lists.{keep}
use Rattle.masks.specs.Bit.{bit}
use Rattle.masks.specs.MaskOf.{mask_of}

-- "0 none, 1 add, 2 and, 3 or, 4 exclusive or, 5 larger, 6 smaller": by the names of the instructions
abbrev pub no_operation : ℕ
no_operation = 0

abbrev pub amoadd : ℕ
amoadd = 1

abbrev pub amoand : ℕ
amoand = 2

abbrev pub amoor : ℕ
amoor = 3

abbrev pub amoxor : ℕ
amoxor = 4

abbrev pub amomaxu : ℕ
amomaxu = 5

abbrev pub amominu : ℕ
amominu = 6

-- how many bits a value has
abbrev pub width : ℕ
width = 16

-- the value whose bit k is f k
abbrev pub bitwise : (ℕ → Bool) → ℕ
bitwise f = mask_of (keep f (below width))

-- "1 add modulo 65,536"
abbrev pub added : ℕ → ℕ → ℕ
added value operand = (value + operand) % 65536

-- "2 and"
unfoldable pub anded : ℕ → ℕ → ℕ
anded value operand = bitwise (λ k. bit value k && bit operand k)

-- "3 or"
unfoldable pub ored : ℕ → ℕ → ℕ
ored value operand = bitwise (λ k. bit value k || bit operand k)

-- "4 exclusive or"
unfoldable pub xored : ℕ → ℕ → ℕ
xored value operand = bitwise (λ k. xor (bit value k) (bit operand k))

-- "5 larger"
unfoldable pub larger : ℕ → ℕ → ℕ
larger value operand = cond (ltb value operand) operand value

-- "6 smaller (both unsigned)"
unfoldable pub smaller : ℕ → ℕ → ℕ
smaller value operand = cond (ltb operand value) operand value

-- the value written, of an operation, the value read and the operand; no other number is an operation
unfoldable pub applied : ℕ → ℕ → ℕ → ℕ
applied operation value operand =
    cond (eqb operation amoadd) (added value operand)
    (cond (eqb operation amoand) (anded value operand)
    (cond (eqb operation amoor) (ored value operand)
    (cond (eqb operation amoxor) (xored value operand)
    (cond (eqb operation amomaxu) (larger value operand)
    (cond (eqb operation amominu) (smaller value operand) 0)))))
