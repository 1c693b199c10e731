-- The code's refusal in the paper's numbers.
use Rattle.std.specs.Prelude.{Result, Ok, Err}
use Rattle.table.specs.declared.EventNo.{EventNo}
use Rattle.refusals.specs.declared.Refusal.{Refusal}
use Rattle.refusals.specs.declared.Refusal.TheVariants.{Line, Record}
use Rattle.refusals.specs.Lines.{Refused, accepted, by_line, by_record}

-- the line's number; the line's number and the record named
abbrev pub refusal_of : Refusal → Refused
refusal_of (Line n) = by_line n
refusal_of (Record n k) = by_record n k.0

-- no refusal where there is an answer
abbrev pub refused_by : {A : Type 0} → Result A Refusal → Refused
refused_by (Ok a) = accepted
refused_by (Err r) = refusal_of r
