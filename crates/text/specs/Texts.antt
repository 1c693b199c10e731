-- "Tests as text": the refusals of a text in their order, the table that it stands for, and its condition.
use Rattle.std.specs.Prelude.{ℕ, suc, max, Bool, false, List, [], ◌∷◌, ◌++◌, map, length, get_or, replicate, eqb, ltb}
use Rattle.lists.specs.Filled.{up_to}
use Rattle.edition.specs.Limits.{two, most_events, max_locations}
use Rattle.table.specs.declared.Table.{Table}
use Rattle.table.specs.Events.{capacity}
use Rattle.table.specs.Annotations.{rvwmo}
use Rattle.refusals.specs.Lines.{Refused, Line, whole, place-of, first_line, unless}
use Rattle.refusals.specs.TableLines.{text_line7, line21, table_lines_by}
use Rattle.block.specs.Reading.{no_table}
use Rattle.text_format.specs.Condition.{Condition, returns}
use Rattle.text_format.specs.Document.{Document, max_text}
use Rattle.text_format.specs.Reading.{Read, got, breach, place_of, document}
use Rattle.text_lines.specs.Lines.{hart_field, location_field, event_of}
use Rattle.model.specs.Following.{names_unknown, names_location}

-- a text that isn't legal has no events, values or condition to speak of
abbrev pub unread : Document
unread = record { events = []; initial = []; outcome = returns 0 0 }

-- what a text says
abbrev pub document_of : Read Document → Document
document_of (got d r) = d
document_of (breach n r) = unread

-- the first breach is refusal n
abbrev pub breaches : ℕ → Read Document → Bool
breaches n (got d r) = false
breaches n (breach m r) = eqb m n

-- its place
abbrev pub breach_place : List ℕ → Read Document → ℕ
breach_place s (got d r) = 0
breach_place s (breach n r) = place_of s r

-- the numbers of one field, line by line
abbrev pub column : ℕ → List (List ℕ) → List ℕ
column k ls = map (λ l. get_or l k 0) ls

-- one more than the largest, and 0 of none: so many cover the numbers, and no fewer do
abbrev pub covering : List ℕ → ℕ
covering [] = 0
covering (v ∷ vs) = max (suc v) (covering vs)

-- "The number of harts and locations is the least that covers the fields and the initial values"; "(values not given are 0)". No
-- final value is stated, and slots past the events are blank. "texts are of model 0".
unfoldable pub table_of : Document → Table
table_of d = record {
  harts = covering (column hart_field d.events);
  locations = max (length d.initial) (covering (column location_field d.events));
  count = length d.events;
  stated = 0;
  model = rvwmo;
  initial = up_to max_locations (λ x. get_or d.initial x 0);
  events = up_to capacity (λ k. event_of (get_or d.events k []));
  finals = replicate max_locations 0;
}

-- the lines of a text s that reads as x, in their order: 1; "The first breach decides", 20 or 19; "Then 5 to 11 follow on the
-- table .., and then 23"; 21 is "checked .. in texts after 23"
unfoldable pub lines_as : List ℕ → Read Document → List Line
lines_as s x =
    let d = document_of x in
    let t = table_of d in
    whole 1 (ltb max_text (length s))
    ∷ place-of 19 (breach_place s x) (breaches 19 x)
    ∷ place-of 20 (breach_place s x) (breaches 20 x)
    ∷ (table_lines_by (text_line7 t) (most_events two) false t
    ++ (whole 23 (names_unknown t d.outcome) ∷ whole 21 (line21 (names_location d.outcome) t) ∷ []))

unfoldable pub text_lines : List ℕ → List Line
text_lines s = lines_as s (document s)

-- the table that a text stands for, good or not
abbrev pub table_of_text : List ℕ → Table
table_of_text s = table_of (document_of (document s))

-- the refusal of a text, if any
unfoldable pub text_refusal : List ℕ → Refused
text_refusal s = first_line (table_of_text s).count (text_lines s)

-- the table if nothing refuses, else the blank one
unfoldable pub text_table : List ℕ → Table
text_table s = unless (text_refusal s) (table_of_text s) no_table

unfoldable pub condition_of : List ℕ → Condition
condition_of s = (document_of (document s)).outcome
