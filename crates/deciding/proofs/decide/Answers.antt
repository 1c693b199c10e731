use mathlib.Core.Path.{sym, ◌∙◌}
use Rattle.deciding.proofs.ReplyLaws.{blank-new, long-enough, decides-short, decides-long}
use Rattle.deciding.proofs.decide.Goals as goal

pub returns-then-is_short : goal.returns-then-is_short
returns-then-is_short c = decides-short c.args.t c.args.start.now c.args.out.now (sym c.is_short.ensures ∙ c.if-is_short.true)

pub decide_by-requires : goal.decide_by-requires
decide_by-requires c = (
  c.requires,
  long-enough c.args.t c.args.out.now (sym c.is_short.ensures ∙ c.if-is_short.false),
  blank-new 4096,
)

pub returns : goal.returns
returns c = decides-long c.args.t c.args.start.now c.args.out.now _ _ (sym c.is_short.ensures ∙ c.if-is_short.false)
    c.decide_by.ensures
