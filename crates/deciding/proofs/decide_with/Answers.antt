use mathlib.Core.Path.{refl, sym, ◌∙◌}
use Rattle.deciding.proofs.ReplyLaws.{long-enough, decides-short, decides-long}
use Rattle.deciding.proofs.decide_with.Goals as goal

pub returns-then-is_short : goal.returns-then-is_short
returns-then-is_short c = record { decides = decides-short c.args.t c.args.start.now c.args.out.now (sym c.is_short.ensures ∙ c.if-is_short.true); memo_after = refl }

pub decide_by-requires : goal.decide_by-requires
decide_by-requires c = (
  c.requires,
  long-enough c.args.t c.args.out.now (sym c.is_short.ensures ∙ c.if-is_short.false),
  c.clear.ensures,
)

pub returns : goal.returns
returns c = let r = c.decide_by.ensures in record { decides = decides-long c.args.t c.args.start.now c.args.out.now _ _ (sym c.is_short.ensures ∙ c.if-is_short.false) r; memo_after = tt }
