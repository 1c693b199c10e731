use Prim.Native.Nat.{◌≤◌}
use lib.ListN.{length}
use Rattle.search.specs.Replies.{length_of}
use mathlib.Core.Path.{subst}
use Prim.Native.Nat.{ℕ}
use mathlib.Core.List.{◌++◌}
use mathlib.Core.Path.{sym, ap, ◌∙◌}
use Rattle.std.specs.Prelude.{Result}
use Rattle.refusals.specs.declared.Refusal.{Refusal}
use Rattle.witness_walk.specs.declared.Ending.{Ending}
use Rattle.search.specs.Replies.{reply_of}
use Rattle.console.specs.Texts.{ascii, decimal}
use Rattle.console.proofs.LineLaws.{same_text}
use Rattle.suite.specs.SuiteLine.{reply_text}
use Rattle.suite.proofs.replied.Goals as goal

pub ended-requires : goal.ended-requires
ended-requires c = subst (λ (x : Result Ending Refusal). length_of x ≤ length c.args.answer.now) c.in-Ok.is c.requires

pub returns-in-Err : goal.returns-in-Err
returns-in-Err c = same_text _ _
    (ap (λ (n : ℕ). ascii "refused " ++ decimal n) c.number.ensures
    ∙ sym (ap (λ (x : Result Ending Refusal). reply_text (reply_of x c.args.answer.now)) c.in-Err.is))
    c.item.ensures

pub returns-in-Ok : goal.returns-in-Ok
returns-in-Ok c = same_text _ _ (sym (ap (λ (x : Result Ending Refusal). reply_text (reply_of x c.args.answer.now)) c.in-Ok.is))
    c.ended.ensures
