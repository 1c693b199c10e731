use mathlib.Core.Path.{sym, subst}
use Rattle.deciding.specs.Memo.{Blank}
use Rattle.deciding.proofs.ReplyLaws.{blank-new}
use Rattle.deciding.proofs.clear.Goals as goal

pub returns : goal.returns
returns c = subst Blank (sym (c.fill.ensures.after (λ y e. e))) (blank-new _)
