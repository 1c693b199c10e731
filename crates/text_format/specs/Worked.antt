-- Texts worked by hand: what is read, and where the first breach is.
use Rattle.std.specs.Prelude.{ℕ, ◌≡◌, true, List, [], ◌∷◌}
use Prim.Native.String.{String}
use Rattle.text_format.specs.Bytes.{bytes}
use Rattle.text_format.specs.Condition.{Condition, returns, ends, negated, both, either, max_levels, decimal_in, printed}
use Rattle.text_format.specs.Document.{Document, line_of, lines_of, print, within, well_formed}
use Rattle.text_format.specs.Reading.{Read, got, breach, place_of, word, may_not_follow, digits, number, atom, joint, negation, bracket, opening, condition, line, event_lines, values, document_in, document}

-- a text and the document that it says; a text, the number of its refusal and the place
pub data Case : Type 0 where
  says : String → Document → Case
  refused : String → ℕ → ℕ → Case

-- what was read; or the number and the place of the breach
pub data Answer : Type 0 where
  read : Document → List ℕ → Answer
  by : ℕ → ℕ → Answer

abbrev pub answer_of : List ℕ → Read Document → Answer
answer_of s (got d r) = read d r
answer_of s (breach n r) = by n (place_of s r)

-- a legal text is how its document is written, and is read as that
abbrev pub Right : Case → Type 0
Right (says s d) = (well_formed max_levels d ≡ true) × (print d ≡ bytes s) × (answer_of (bytes s) (document (bytes s)) ≡ read d [])
Right (refused s n place) = answer_of (bytes s) (document (bytes s)) ≡ by n place

abbrev pub Every : List Case → Type 0
Every [] = Unit {0}
Every (c ∷ cs) = Right c × Every cs

-- the definitions that a case computes by
unfoldable pub computes : Unit {0}
unfolding decimal_in printed line_of lines_of print within well_formed word may_not_follow digits number atom joint negation bracket opening condition line event_lines values document_in
computes = tt

-- a load of location 0 on hart 0, which is 0 at first
abbrev pub one_load : Condition → Document
one_load c = record { events = (1 ∷ 0 ∷ 0 ∷ 0 ∷ 0 ∷ 0 ∷ 0 ∷ 0 ∷ 0 ∷ 0 ∷ 0 ∷ []) ∷ []; initial = 0 ∷ []; outcome = c }

-- an event with every field at its largest
abbrev pub largest : Document
largest = record {
  events = (255 ∷ 255 ∷ 255 ∷ 255 ∷ 4294967295 ∷ 4294967295 ∷ 4294967295 ∷ 65535 ∷ 65535 ∷ 255 ∷ 255 ∷ []) ∷ [];
  initial = 0 ∷ 65535 ∷ [];
  outcome = both (returns 255 65535) (negated (ends 0 2));
}

abbrev pub two_events : Document
two_events = record {
  events = (2 ∷ 0 ∷ 0 ∷ 0 ∷ 0 ∷ 0 ∷ 0 ∷ 0 ∷ 1 ∷ 0 ∷ 0 ∷ []) ∷ (1 ∷ 1 ∷ 0 ∷ 0 ∷ 0 ∷ 0 ∷ 0 ∷ 0 ∷ 0 ∷ 0 ∷ 0 ∷ []) ∷ [];
  initial = 7 ∷ [];
  outcome = either (negated (ends 0 2)) (returns 1 10);
}

abbrev pub worked : List Case
worked =
    says "255 255 255 255 4294967295 4294967295 4294967295 65535 65535 255 255\n\n0 65535\n( r255=65535 and not x0=2 )\n" largest
    ∷ says "2 0 0 0 0 0 0 0 1 0 0\n1 1 0 0 0 0 0 0 0 0 0\n\n7\n( not x0=2 or r1=10 )\n" two_events
    -- no event line: legal, and refused by 5 later
    ∷ says "\n0\nr0=0\n" (record { events = []; initial = 0 ∷ []; outcome = returns 0 0 })
    -- eight levels
    ∷ says "1 0 0 0 0 0 0 0 0 0 0\n\n0\nnot not not not not not not not r0=0\n"
    (one_load (negated (negated (negated (negated (negated (negated (negated (negated (returns 0 0))))))))))
    -- the empty text
    ∷ refused "" 19 0
    -- a blank line, then the end
    ∷ refused "\n" 19 1
    -- no event lines, and a number past 255: the grammar first
    ∷ refused "\n0\nr256=0\n" 19 6
    -- ten numbers in a line
    ∷ refused "1 0 0 0 0 0 0 0 0 0\n\n0\nr0=0\n" 19 19
    -- twelve numbers in a line
    ∷ refused "1 0 0 0 0 0 0 0 0 0 0 0\n\n0\nr0=0\n" 19 21
    -- a leading zero
    ∷ refused "1 00 0 0 0 0 0 0 0 0 0\n\n0\nr0=0\n" 19 3
    -- a leading zero in a condition
    ∷ refused "1 0 0 0 0 0 0 0 0 0 0\n\n0\nr00=0\n" 19 27
    -- hart 256: the digit that overflows
    ∷ refused "1 256 0 0 0 0 0 0 0 0 0\n\n0\nr0=0\n" 19 4
    -- an address mask of 4,294,967,296
    ∷ refused "1 0 0 0 4294967296 0 0 0 0 0 0\n\n0\nr0=0\n" 19 17
    -- a control mask of eleven digits
    ∷ refused "1 0 0 0 0 0 10000000000 0 0 0 0\n\n0\nr0=0\n" 19 22
    -- a value written of 65,536
    ∷ refused "2 0 0 0 0 0 0 0 65536 0 0\n\n0\nx0=0\n" 19 20
    -- an operand of 256
    ∷ refused "3 0 0 0 0 0 0 0 0 1 256\n\n0\nr0=0\n" 19 22
    -- an empty line for the initial values
    ∷ refused "1 0 0 0 0 0 0 0 0 0 0\n\n\nr0=0\n" 19 23
    -- a space behind the initial values
    ∷ refused "1 0 0 0 0 0 0 0 0 0 0\n\n0 \nr0=0\n" 19 25
    -- an initial value of 65,536
    ∷ refused "1 0 0 0 0 0 0 0 0 0 0\n\n65536\nr0=0\n" 19 27
    -- no condition
    ∷ refused "1 0 0 0 0 0 0 0 0 0 0\n\n0\n\n" 19 25
    -- a capital letter
    ∷ refused "1 0 0 0 0 0 0 0 0 0 0\n\n0\nR0=0\n" 19 25
    -- no number behind r
    ∷ refused "1 0 0 0 0 0 0 0 0 0 0\n\n0\nr=0\n" 19 26
    -- a space before the equals sign
    ∷ refused "1 0 0 0 0 0 0 0 0 0 0\n\n0\nr0 =0\n" 19 27
    -- a value of 65,536
    ∷ refused "1 0 0 0 0 0 0 0 0 0 0\n\n0\nr0=65536\n" 19 32
    -- two atoms without a bracket
    ∷ refused "1 0 0 0 0 0 0 0 0 0 0\n\n0\nr0=0 and r0=0\n" 19 29
    -- no space behind the bracket
    ∷ refused "1 0 0 0 0 0 0 0 0 0 0\n\n0\n(r0=0 and r0=0 )\n" 19 26
    -- no space before the closing bracket
    ∷ refused "1 0 0 0 0 0 0 0 0 0 0\n\n0\n( r0=0 and r0=0)\n" 19 40
    -- a connective that isn't one
    ∷ refused "1 0 0 0 0 0 0 0 0 0 0\n\n0\n( r0=0 xor r0=0 )\n" 19 32
    -- `an`: the third letter is the breach
    ∷ refused "1 0 0 0 0 0 0 0 0 0 0\n\n0\n( r0=0 an r0=0 )\n" 19 34
    -- `ore`
    ∷ refused "1 0 0 0 0 0 0 0 0 0 0\n\n0\n( r0=0 ore r0=0 )\n" 19 34
    -- three in a bracket
    ∷ refused "1 0 0 0 0 0 0 0 0 0 0\n\n0\n( r0=0 or r0=0 or r0=0 )\n" 19 40
    -- one in a bracket
    ∷ refused "1 0 0 0 0 0 0 0 0 0 0\n\n0\n( r0=0 )\n" 19 32
    -- `nor`
    ∷ refused "1 0 0 0 0 0 0 0 0 0 0\n\n0\nnor r0=0\n" 19 27
    -- `not` without a space
    ∷ refused "1 0 0 0 0 0 0 0 0 0 0\n\n0\nnotr0=0\n" 19 28
    -- nine nots: 20 at the ninth
    ∷ refused "1 0 0 0 0 0 0 0 0 0 0\n\n0\nnot not not not not not not not not r0=0\n" 20 57
    -- eight nots, then an n that is no not: 20 all the same
    ∷ refused "1 0 0 0 0 0 0 0 0 0 0\n\n0\nnot not not not not not not not nope\n" 20 57
    -- seven nots, then `nope`: 19 at its second letter
    ∷ refused "1 0 0 0 0 0 0 0 0 0 0\n\n0\nnot not not not not not not nope\n" 19 55
    -- eight nots, then a bracket: 20
    ∷ refused "1 0 0 0 0 0 0 0 0 0 0\n\n0\nnot not not not not not not not ( r0=0 or r0=0 )\n" 20 57
    -- no newline at the end
    ∷ refused "1 0 0 0 0 0 0 0 0 0 0\n\n0\nr0=0" 19 29
    -- a newline too many
    ∷ refused "1 0 0 0 0 0 0 0 0 0 0\n\n0\nr0=0\n\n" 19 30
    -- a space before a newline
    ∷ refused "1 0 0 0 0 0 0 0 0 0 0 \n\n0\nr0=0\n" 19 21
    -- two spaces
    ∷ refused "1  0 0 0 0 0 0 0 0 0 0\n\n0\nr0=0\n" 19 2
    -- a space alone
    ∷ refused " " 19 0
    -- the ninth level on a left side
    ∷ refused "1 0 0 0 0 0 0 0 0 0 0\n\n0\n( not not not not not not not not r0=0 and r0=0 )\n" 20 55
    -- the ninth level on a right side
    ∷ refused "1 0 0 0 0 0 0 0 0 0 0\n\n0\n( r0=0 and not not not not not not not not r0=0 )\n" 20 64
    ∷ []
