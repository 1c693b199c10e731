use mathlib.Core.Path.{ap}
use mathlib.Core.Bool.{not}
use borrow.Author.Tests.{eq-eqb, ne_eqb}
use Rattle.steps.proofs.BufferMasks.{pred-at, waits-is}
use Rattle.steps.proofs.may_read.Goals as goal

pub returns-then-held-m-ne0 : goal.returns-then-held-m-ne0
returns-then-held-m-ne0 c s q = rw (waits-is _ s _ q c.args.r.0 _ (pred-at _ _ _ c.requires.0.pred c.requires.0.tso.good.small.events c.requires.1), ne_eqb _ _ c.if-held-m-ne0.true)

pub returns-in-Some : goal.returns-in-Some
returns-in-Some c s q = rw (waits-is _ s _ q c.args.r.0 _ (pred-at _ _ _ c.requires.0.pred c.requires.0.tso.good.small.events c.requires.1), eq-eqb _ _ c.if-held-m-ne0.false, c.in-Some.is) (ap not (c.unsure.ensures s q))

pub returns-in-None : goal.returns-in-None
returns-in-None c s q = rw (waits-is _ s _ q c.args.r.0 _ (pred-at _ _ _ c.requires.0.pred c.requires.0.tso.good.small.events c.requires.1), eq-eqb _ _ c.if-held-m-ne0.false, c.in-None.is)
