use native.Mathlib.Omega.{arith}
use borrow.Author.Rules.{rules}
use Rattle.std.specs.Prelude.{Err}
use Rattle.text_lines.specs.Says.{LineSays}
use Rattle.text_lines.proofs.FieldLaws.{fields-start, fields-more, fields-bad, fields-done, fields_within}
use Rattle.text_lines.proofs.read_line.Goals as goal

pub loop-i-init : goal.loop-i-init
loop-i-init c = fields-start _ _ c.requires

pub returns-in_err-field : goal.returns-in_err-field
returns-in_err-field c =
    let q = c.in_err-field.ensures in
    let e : LineSays c.args.text.now c.args.from (Err c.in_err-field.field-0.0) = (fields-bad _ _ _ _ _ c.loop-i.invariant c.loop-i-test.true _ q, q.1) in
    search rules

pub loop-i-preserved : goal.loop-i-preserved
loop-i-preserved c = fields-more _ _ _ _ _ c.loop-i.invariant c.loop-i-test.true _ c.in_ok-field.ensures

pub event_of-requires : goal.event_of-requires
event_of-requires c = fields_within _ _ _ _ _ c.loop-i.invariant c.loop-i-test.false

pub returns : goal.returns
returns c = let v = c.loop-i in (
  v.fields,
  fields-done _ _ _ _ _ v.invariant c.loop-i-test.false,
  c.event_of.ensures,
  v.invariant.inside,
  omega (arith, v.invariant.passed),
)
