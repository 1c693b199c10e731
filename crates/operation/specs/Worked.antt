-- Each operation at its edges, worked by hand.
use Rattle.std.specs.Prelude.{ℕ, ◌≡◌, List, [], ◌∷◌}
use Rattle.operation.specs.Operation.{amoadd, amoand, amoor, amoxor, amomaxu, amominu, applied}

-- an operation, a value read, an operand and the value that is written
pub data Case : Type 0 where
  writes : ℕ → ℕ → ℕ → ℕ → Case

abbrev pub Right : Case → Type 0
Right (writes operation value operand written) = applied operation value operand ≡ written

abbrev pub Every : List Case → Type 0
Every [] = Unit {0}
Every (c ∷ cs) = Right c × Every cs

abbrev pub worked : List Case
worked =
    -- the sum begins anew at 65,536
    writes amoadd 65535 1 0 ∷ writes amoadd 65535 255 254 ∷ writes amoadd 65535 0 65535 ∷ writes amoadd 0 255 255
    -- an operand has no high byte, so that "and" clears that of the value
    ∷ writes amoand 0xabcd 255 0xcd ∷ writes amoand 65535 0 0 ∷ writes amoand 0xff0f 0x3c 0x0c
    ∷ writes amoor 0xab00 255 0xabff ∷ writes amoor 0xab0f 0 0xab0f ∷ writes amoor 0x0f0f 0x3c 0x0f3f
    ∷ writes amoxor 0xabff 255 0xab00 ∷ writes amoxor 0xab0f 0 0xab0f ∷ writes amoxor 0x0f0f 0x3c 0x0f33
    -- unsigned, so that 65,535 is the largest value
    ∷ writes amomaxu 65535 255 65535 ∷ writes amomaxu 0 255 255 ∷ writes amomaxu 7 7 7 ∷ writes amomaxu 256 255 256
    ∷ writes amominu 65535 255 255 ∷ writes amominu 65535 0 0 ∷ writes amominu 7 7 7 ∷ writes amominu 254 255 254
    ∷ []
