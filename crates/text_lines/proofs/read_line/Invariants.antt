use Rattle.text_lines.proofs.FieldLaws.{Fields}
use Rattle.text_lines.proofs.read_line.Given as goal

abbrev pub invariant-loop-i : goal.invariant-loop-i
invariant-loop-i l = Fields l.text l.from l.at l.i l.fields
