-- The code's refusal of a text in the paper's numbers, and the table that was read.
use Rattle.std.specs.Prelude.{Result, Ok, Err}
use Rattle.table.specs.declared.Table.{Table}
use Rattle.refusals.specs.Lines.{Refused, accepted, by_place}
use Rattle.refusals.specs.Refusals.{refusal_of}
use Rattle.block.specs.Reading.{no_table}
use Rattle.text.specs.declared.TextReading.{TextReading}
use Rattle.text.specs.declared.TextRefusal.{TextRefusal}
use Rattle.text.specs.declared.TextRefusal.TheVariants as text

-- 19 and 20 with their place; any other
abbrev pub text_refusal_of : TextRefusal → Refused
text_refusal_of (text.At n place) = by_place n place
text_refusal_of (text.Table r) = refusal_of r

-- no refusal where there is an answer
abbrev pub text_refused_by : {A : Type 0} → Result A TextRefusal → Refused
text_refused_by (Ok a) = accepted
text_refused_by (Err e) = text_refusal_of e

-- the table that was read, else the blank one
abbrev pub text_table_of : {E : Type 0} → Result TextReading E → Table
text_table_of (Ok r) = r.table
text_table_of (Err e) = no_table
