use borrow.Author.Rules.{rules}
use Rattle.std.specs.Prelude.{Err}
use Rattle.text.specs.Judged.{PartsSay}
use Rattle.text.proofs.TextLaws.{lines-breach, values-breach, outcome-breach, whole-read}
use Rattle.text.proofs.read_parts.Goals as goal

pub returns-in_err-lines : goal.returns-in_err-lines
returns-in_err-lines c =
    let q = c.in_err-lines.ensures in
    let e : PartsSay c.args.text.now c.args.words.now (Err c.in_err-lines.field-0.0) = (lines-breach _ _ _ q.0, q.1) in
    search rules

pub returns-in_err-values : goal.returns-in_err-values
returns-in_err-values c =
    let l = c.in_ok-lines.ensures in
    let q = c.in_err-values.ensures in
    let e : PartsSay c.args.text.now c.args.words.now (Err c.in_err-values.field-0.0) = (values-breach _ _ _ l.1 _ _ q.0, q.1) in
    search rules

pub returns-in_err-len : goal.returns-in_err-len
returns-in_err-len c =
    let l = c.in_ok-lines.ensures in
    let v = c.in_ok-values.ensures in
    let q = c.in_err-len.ensures in
    let e : PartsSay c.args.text.now c.read_outcome.new.words (Err c.in_err-len.field-0.0) =
    (outcome-breach _ _ _ l.1 _ _ v.1 _ _ q.0, q.1) in
    search rules

pub returns : goal.returns
returns c =
    let l = c.in_ok-lines.ensures in
    let v = c.in_ok-values.ensures in
    let o = c.in_ok-len.ensures in
    (l.0, v.0, o.0, whole-read _ _ _ l.1 _ _ v.1 _ o.1, l.2, l.3, v.2, v.3, o.2, o.3)
