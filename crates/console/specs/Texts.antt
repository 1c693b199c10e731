-- What stands in a line: words, numbers in decimal, and lists of them.
use Rattle.std.specs.Prelude.{ℕ, zero, suc, ◌+◌, ◌/◌, ◌%◌, cond, List, [], ◌∷◌, ◌++◌, ltb}
use Prim.Native.Char.{code}
use Prim.Native.String as string
use Prim.Native.String.{String}

-- The bytes of a text in ASCII.
abbrev pub ascii : String → List ℕ
ascii string.[] = []
ascii (string.◌∷◌ c s) = code c ∷ ascii s

-- The byte of a digit below ten.
abbrev pub digit_ascii : ℕ → ℕ
digit_ascii d = 48 + d

-- The digits of n, as far as k go.
unfoldable pub digits_of : ℕ → ℕ → List ℕ
digits_of zero n = []
digits_of (suc k) n = let front = digits_of k (n / 10) in cond (ltb n 10) (digit_ascii n ∷ []) (front ++ (digit_ascii (n % 10) ∷ []))

-- n in decimal; a number of 64 bits has at most 20 digits.
abbrev pub decimal : ℕ → List ℕ
decimal n = digits_of 20 n

-- A space and a number for each entry.
unfoldable pub spaced : List ℕ → List ℕ
spaced [] = []
spaced (b ∷ bs) = let rest = spaced bs in ascii " " ++ decimal b ++ rest
