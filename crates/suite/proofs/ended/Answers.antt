use Prim.Native.Nat.{◌≤◌}
use mathlib.Core.Path.{subst}
use lib.ListN.{length}
use lib.Seq.{length-take-le}
use Rattle.std.specs.Prelude.{Ok}
use Rattle.search.specs.Replies.{length_of}
use mathlib.Core.Path.{sym, ap}
use Rattle.witness_walk.specs.declared.Ending.{Ending}
use Rattle.witness_walk.specs.Ending.{answer_of}
use Rattle.console.proofs.LineLaws.{then, same_text}
use Rattle.suite.specs.SuiteLine.{answer_text}
use Rattle.suite.proofs.ended.Goals as goal

pub slice_bounds-list-end : goal.slice_bounds-list-end
slice_bounds-list-end c = sym (length-take-le c.in-Found.len c.args.answer.now
    (subst (λ (o : Ending). length_of (Ok o) ≤ length c.args.answer.now) c.in-Found.is c.requires))

pub returns-in-Found : goal.returns-in-Found
returns-in-Found c = same_text _ _ (sym (ap (λ (o : Ending). answer_text (answer_of o c.args.answer.now)) c.in-Found.is))
    (then _ _ _ _ _
    (then _ _ _ _ _ (then _ _ _ _ _ c.text.ensures c.visited.ensures) c.text-in-Found.ensures)
    c.list.ensures)

pub returns-in-NoneLeft : goal.returns-in-NoneLeft
returns-in-NoneLeft c = same_text _ _ (sym (ap (λ (o : Ending). answer_text (answer_of o c.args.answer.now)) c.in-NoneLeft.is))
    (then _ _ _ _ _ c.text-in-NoneLeft.ensures c.visited-in-NoneLeft.ensures)

pub returns-in-Spent : goal.returns-in-Spent
returns-in-Spent c = same_text _ _ (sym (ap (λ (o : Ending). answer_text (answer_of o c.args.answer.now)) c.in-Spent.is))
    (then _ _ _ _ _ c.text-in-Spent.ensures c.visited-in-Spent.ensures)
