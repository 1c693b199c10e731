use mathlib.Core.Path.{sym, ◌∙◌}
use Rattle.engine.proofs.LoadLaws.{read_none, read-room, read-unclean, read_more, read_all}
use Rattle.engine.proofs.load.Goals as goal

pub loop-len-init : goal.loop-len-init
loop-len-init c = read_none c.requires.0 c.requires.1 c.ready_of-can.ensures

pub returns-then-not-may : goal.returns-then-not-may
returns-then-not-may c = read-unclean c.loop-len.invariant c.loop-len-test.true (sym c.may.ensures ∙ c.if-not-may.true)

pub bounds-order-len : goal.bounds-order-len
bounds-order-len c = read-room c.loop-len.invariant

pub place-masks-requires : goal.place-masks-requires
place-masks-requires c = let i = c.loop-len.invariant in
    (i.tables, i.holds.current, rw c.from.ensures (sym c.may.ensures ∙ c.if-not-may.false))

pub loop-len-preserved : goal.loop-len-preserved
loop-len-preserved c = read_more c.loop-len.invariant c.loop-len-test.true (sym c.may.ensures ∙ c.if-not-may.false)
    (rw c.from.ensures at c.place-masks.ensures.0) c.place-masks.ensures.1

pub returns : goal.returns
returns c = read_all c.loop-len.invariant c.loop-len-test.false
