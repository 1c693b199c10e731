use native.Mathlib.Omega.{arith}
use borrow.Author.Rules.{rules}
use Rattle.std.specs.Prelude.{Err}
use Rattle.text_lines.specs.Says.{FieldSays}
use Rattle.text_lines.proofs.FieldLaws.{bound-fair, field-number, field-behind, field-got}
use Rattle.text_lines.proofs.read_field.Goals as goal

pub read_number-requires : goal.read_number-requires
read_number-requires c = record { from_in_bounds = c.requires.0; le_most = bound-fair c.args.i c.requires.1 }

pub returns-in_err-number : goal.returns-in_err-number
returns-in_err-number c =
    let a = c.args in
    let q = c.in_err-number.ensures in
    let e : FieldSays a.text.now a.from a.i (Err c.in_err-number.field-0.0) = (field-number _ _ _ _ q.0, q.1) in
    search rules

pub returns-in_err-next : goal.returns-in_err-next
returns-in_err-next c =
    let a = c.args in
    let q = c.in_ok-number.ensures in
    let w = c.in_err-next.ensures in
    let e : FieldSays a.text.now a.from a.i (Err c.in_err-next.field-0.0) = (field-behind _ _ _ _ q.0 _ _ w.0, w.1) in
    search rules

pub returns : goal.returns
returns c =
    let q = c.in_ok-number.ensures in
    let w = c.in_ok-next.ensures in
    (field-got _ _ _ _ q.0 _ w.0, w.1, omega (arith, q.2, w.2))
