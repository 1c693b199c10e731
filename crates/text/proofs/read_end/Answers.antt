use borrow.Author.Rules.{rules}
use Rattle.std.specs.Prelude.{Err}
use Rattle.text.specs.Judged.{ClosingSays}
use Rattle.text.proofs.OutcomeLaws.{closing-bad, closing-more, closing_end}
use Rattle.text.proofs.read_end.Goals as goal

pub returns-in_err-next : goal.returns-in_err-next
returns-in_err-next c =
    let w = c.in_err-next.ensures in
    let e : ClosingSays {A = Unit {0}} c.args.text.now c.args.at (Err c.in_err-next.field-0.0) = ((λ d. closing-bad _ c.args.at d _ w), w.1) in
    search rules

pub returns-then-next-text : goal.returns-then-next-text
returns-then-next-text c = let w = c.in_ok-next.ensures in
    ((λ d. closing-more _ _ d _ w c.if-next-text.true), w.1)

pub returns : goal.returns
returns c = let w = c.in_ok-next.ensures in
    λ d. closing_end _ _ d _ w c.if-next-text.false
