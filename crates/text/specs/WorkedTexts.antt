-- Texts worked by hand: what refuses them, and the table that they stand for.
use Rattle.std.specs.Prelude.{ℕ, ◌≡◌, List, [], ◌∷◌}
use Prim.Native.String.{String}
use Rattle.lists.specs.Filled.{up_to}
use Rattle.refusals.specs.Lines.{Refused, accepted, by_line, by_record, by_place}
use Rattle.text_format.specs.Bytes.{bytes}
use Rattle.text_format.specs.Worked as format
use Rattle.text_lines.specs.Lines.{event_of}
use Rattle.model.specs.Computes as model
use Rattle.model.specs.Following.{names_unknown, names_location}
use Rattle.text.specs.Texts.{table_of, lines_as, text_lines, text_refusal, text_table}

-- a text and its refusal; a text that is accepted, and how many harts, locations and events its table has
pub data Case : Type 0 where
  refused : String → Refused → Case
  stands : String → (harts locations events : ℕ) → Case

abbrev pub Right : Case → Type 0
Right (refused s r) = text_refusal (bytes s) ≡ r
Right (stands s h l n) =
    (text_refusal (bytes s) ≡ accepted) × ((text_table (bytes s)).harts ≡ h) × ((text_table (bytes s)).locations ≡ l)
    × ((text_table (bytes s)).count ≡ n)

abbrev pub Every : List Case → Type 0
Every [] = Unit {0}
Every (c ∷ cs) = Right c × Every cs

-- the definitions that a case computes by
unfoldable pub computes : Unit {0}
unfolding format.computes model.computes up_to event_of names_unknown names_location table_of lines_as text_lines text_refusal text_table
computes = tt

abbrev pub worked : List Case
worked =
    stands "1 0 0 0 0 0 0 0 0 0 0\n\n0\nr0=0\n" 1 1 1
    -- as many harts as the largest number asks for, and locations as the fields or the values do
    ∷ stands "2 3 2 0 0 0 0 0 1 0 0\n1 1 0 0 0 0 0 0 0 0 0\n\n0\n( r1=0 or x1=1 )\n" 4 3 2
    ∷ stands "1 0 0 0 0 0 0 0 0 0 0\n1 0 1 0 0 0 0 0 0 0 0\n\n0 0 0\nx2=0\n" 1 3 2
    ∷ stands "1 0 7 0 0 0 0 0 0 0 0\n\n0\n( ( ( x0=0 and x1=0 ) and ( x2=0 or x3=0 ) ) and ( not ( x4=0 and x5=0 ) and x6=0 ) )\n" 1 8 1
    -- a breach, before anything is asked of the table
    ∷ refused "" (by_place 19 0)
    ∷ refused "\n0\nr256=0\n" (by_place 19 6)
    ∷ refused "1 0 0 0 0 0 0 0 0 0 0\n\n0\nr0=0" (by_place 19 29)
    ∷ refused "1 0 0 0 0 0 0 0 0 0 0\n\n0\nnot not not not not not not not not r0=0\n" (by_place 20 57)
    -- 5: no events; a hart, a location, a fence's too, and initial values that are too many
    ∷ refused "\n0\nr0=0\n" (by_line 5)
    ∷ refused "2 4 0 0 0 0 0 0 1 0 0\n\n0\nx0=1\n" (by_line 5)
    ∷ refused "2 255 0 0 0 0 0 0 1 0 0\n\n0\nx0=1\n" (by_line 5)
    ∷ refused "2 0 8 0 0 0 0 0 1 0 0\n\n0\nx0=1\n" (by_line 5)
    ∷ refused "1 0 0 0 0 0 0 0 0 0 0\n6 0 8 15 0 0 0 0 0 0 0\n\n0\nr0=0\n" (by_line 5)
    ∷ refused "1 0 0 0 0 0 0 0 0 0 0\n\n0 0 0 0 0 0 0 0 0\nr0=0\n" (by_line 5)
    -- 7: a kind; a value read; the written value of an AMO with an operation; a fence's location
    ∷ refused "255 0 0 0 0 0 0 0 0 0 0\n\n0\nx0=0\n" (by_record 7 0)
    ∷ refused "1 0 0 0 0 0 0 65535 0 0 0\n\n0\nr0=0\n" (by_record 7 0)
    ∷ refused "3 0 0 0 0 0 0 0 1 1 1\n\n0\nr0=0\n" (by_record 7 0)
    ∷ refused "1 0 0 0 0 0 0 0 0 0 0\n6 0 1 15 0 0 0 0 0 0 0\n\n0\nr0=0\n" (by_record 7 1)
    -- 9: a mask that names what isn't there
    ∷ refused "1 0 0 0 4294967295 0 0 0 0 0 0\n\n0\nr0=0\n" (by_record 9 0)
    -- 23: a store, a fence, an event and a location that aren't there
    ∷ refused "2 0 0 0 0 0 0 0 1 0 0\n\n0\nr0=1\n" (by_line 23)
    ∷ refused "1 0 0 0 0 0 0 0 0 0 0\n6 0 0 15 0 0 0 0 0 0 0\n\n0\nr1=0\n" (by_line 23)
    ∷ refused "1 0 0 0 0 0 0 0 0 0 0\n\n0\nnot r200=0\n" (by_line 23)
    ∷ refused "1 0 0 0 0 0 0 0 0 0 0\n\n0\n( r0=0 or x1=0 )\n" (by_line 23)
    -- 23 comes after 7 and after 11
    ∷ refused "1 0 0 0 0 0 0 1 0 0 0\n\n0\nr9=0\n" (by_record 7 0)
    ∷ refused "6 0 0 15 0 0 0 0 0 0 0\n\n0\nr0=0\n" (by_line 11)
    -- 21: a location that only an initial value names, or a fence; one below the largest; though another is named
    ∷ refused "1 0 0 0 0 0 0 0 0 0 0\n\n0 0\nr0=0\n" (by_line 21)
    ∷ refused "1 0 1 0 0 0 0 0 0 0 0\n6 0 0 15 0 0 0 0 0 0 0\n\n0\nr0=0\n" (by_line 21)
    ∷ refused "1 0 2 0 0 0 0 0 0 0 0\n\n0\n( x0=0 and r0=0 )\n" (by_line 21)
    ∷ stands "1 0 0 0 0 0 0 0 0 0 0\n\n0 0\nx1=5\n" 1 2 1
    -- 21 comes after 11 and after 23
    ∷ refused "6 0 0 15 0 0 0 0 0 0 0\n\n0 0\nr0=0\n" (by_line 11)
    ∷ refused "1 0 0 0 0 0 0 0 0 0 0\n\n0 0\nr1=0\n" (by_line 23)
    ∷ []
