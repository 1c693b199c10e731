-- The bytes of a text.
use Rattle.std.specs.Prelude.{ℕ, List, [], ◌∷◌}
use Prim.Native.Char.{code}
use Prim.Native.String as string
use Prim.Native.String.{String}

-- a text of plain characters, each one byte
abbrev pub bytes : String → List ℕ
bytes string.[] = []
bytes (string.◌∷◌ c s) = code c ∷ bytes s

abbrev pub newline : ℕ
newline = code "\n"

abbrev pub space : ℕ
space = code " "

abbrev pub zero_digit : ℕ
zero_digit = code "0"

abbrev pub nine_digit : ℕ
nine_digit = code "9"

abbrev pub equals : ℕ
equals = code "="

abbrev pub letter_r : ℕ
letter_r = code "r"

abbrev pub letter_x : ℕ
letter_x = code "x"

abbrev pub letter_n : ℕ
letter_n = code "n"

abbrev pub open_bracket : ℕ
open_bracket = code "("

abbrev pub letter_o : ℕ
letter_o = code "o"

abbrev pub not_word : List ℕ
not_word = bytes "not "

abbrev pub open_word : List ℕ
open_word = bytes "( "

abbrev pub and_word : List ℕ
and_word = bytes "and "

abbrev pub or_word : List ℕ
or_word = bytes "or "

abbrev pub close_word : List ℕ
close_word = bytes " )"
