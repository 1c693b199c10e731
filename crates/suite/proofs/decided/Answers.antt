use borrow.Author.Rules.{rules}
use Rattle.console.proofs.LineLaws.{then}
use Rattle.suite.proofs.SuiteLaws.{Bytes, order-within, test-line}
use Rattle.suite.proofs.decided.Goals as goal

pub replied-requires : goal.replied-requires
replied-requires c = let s = c.search-reply in
    order-within s.result _ _ s.ensures.out_after s.ensures.result_value

pub returns : goal.returns
returns c = let s = c.search-reply in
    let known : Bytes s.new.out = λ i. search rules in
    let kept = s.auto.out in
    test-line _ _ _ _ s.result _ s.new.out c.output.ensures c.requires kept
    known s.ensures.out_after
    (then _ _ _ _ _
    (then _ _ _ _ _ (then _ _ _ _ _ c.text.ensures c.number.ensures) c.text-begun.ensures)
    c.replied.ensures)
