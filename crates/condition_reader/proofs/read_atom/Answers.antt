use native.Mathlib.Omega.{arith}
use borrow.Author.Rules.{rules}
use Rattle.std.specs.Prelude.{Err}
use Rattle.condition_reader.specs.Steps.{AtomSays}
use Rattle.condition_reader.proofs.AtomLaws.{atom-number, atom-equals, atom-value, atom-got}
use Rattle.condition_reader.proofs.read_atom.Goals as goal

pub returns-in_err-which : goal.returns-in_err-which
returns-in_err-which c =
    let q = c.in_err-which.ensures in
    let e : AtomSays c.args.text.now c.args.at c.args.returned (Err c.in_err-which.field-0.0) = (atom-number _ _ _ _ q.0, q.1) in
    search rules

pub returns-in_err-equals : goal.returns-in_err-equals
returns-in_err-equals c =
    let k = c.in_ok-which.ensures in
    let q = c.in_err-equals.ensures in
    let e : AtomSays c.args.text.now c.args.at c.args.returned (Err c.in_err-equals.field-0.0) = (atom-equals _ _ _ _ k.0 _ _ q.0, q.1) in
    search rules

pub returns-in_err-value : goal.returns-in_err-value
returns-in_err-value c =
    let k = c.in_ok-which.ensures in
    let w = c.in_ok-equals.ensures in
    let q = c.in_err-value.ensures in
    let e : AtomSays c.args.text.now c.args.at c.args.returned (Err c.in_err-value.field-0.0) = (atom-value _ _ _ _ k.0 _ w.0 _ _ q.0, q.1) in
    search rules

pub returns : goal.returns
returns c =
    let k = c.in_ok-which.ensures in
    let w = c.in_ok-equals.ensures in
    let v = c.in_ok-value.ensures in (
      c.in_ok-which.which.value,
      c.in_ok-value.value.value,
      atom-got _ _ _ _ k.0 _ w.0 _ _ v.0,
      v.1,
      omega (arith, k.2, w.2, v.2),
      c.node.ensures,
    )
