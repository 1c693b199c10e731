use native.Mathlib.Omega.{arith}
use Rattle.text_format.specs.Document.{field_bounds}
use Rattle.text_lines.specs.Lines.{kind_field, hart_field, location_field, flags_field, read_field, written_field, operation_field, operand_field, event_of}
use Rattle.text_lines.proofs.FieldLaws.{within-at}
use borrow.Author.Rules.{rules}
use Rattle.text_lines.proofs.event_of.Goals as goal

pub overflow_cast-result : goal.overflow_cast-result
overflow_cast-result c = let h = within-at field_bounds c.args.fields kind_field c.requires (omega arith) in omega (arith, h)

pub overflow_cast-result-2 : goal.overflow_cast-result-2
overflow_cast-result-2 c = let h = within-at field_bounds c.args.fields hart_field c.requires (omega arith) in omega (arith, h)

pub overflow_cast-result-3 : goal.overflow_cast-result-3
overflow_cast-result-3 c = let h = within-at field_bounds c.args.fields location_field c.requires (omega arith) in omega (arith, h)

pub overflow_cast-result-4 : goal.overflow_cast-result-4
overflow_cast-result-4 c = let h = within-at field_bounds c.args.fields flags_field c.requires (omega arith) in omega (arith, h)

pub overflow_cast-result-5 : goal.overflow_cast-result-5
overflow_cast-result-5 c = let h = within-at field_bounds c.args.fields read_field c.requires (omega arith) in omega (arith, h)

pub overflow_cast-result-6 : goal.overflow_cast-result-6
overflow_cast-result-6 c = let h = within-at field_bounds c.args.fields written_field c.requires (omega arith) in omega (arith, h)

pub overflow_cast-result-7 : goal.overflow_cast-result-7
overflow_cast-result-7 c = let h = within-at field_bounds c.args.fields operation_field c.requires (omega arith) in omega (arith, h)

pub overflow_cast-result-8 : goal.overflow_cast-result-8
overflow_cast-result-8 c = let h = within-at field_bounds c.args.fields operand_field c.requires (omega arith) in omega (arith, h)

pub returns : goal.returns
unfolding event_of
returns c = search rules
