use native.Mathlib.Omega.{arith}
use lib.ListN.{take}
use Rattle.text.proofs.NamedLaws.{gathers-start, gathers-word, gathers-end}
use Rattle.text.proofs.named_locations.Goals as goal

pub loop-i-init : goal.loop-i-init
loop-i-init c = let a = c.args in (omega arith, gathers-start (take a.len a.words.now))

pub loop-i-preserved : goal.loop-i-preserved
loop-i-preserved c = (omega arith, gathers-word c.args.words.now c.args.len c.loop-i.i c.requires _ c.loop-i.invariant.1 (omega arith) _ c.one_if-mask.ensures)

pub returns : goal.returns
returns c = let v = c.loop-i in
    gathers-end c.args.words.now c.args.len v.i c.requires _ v.invariant.1 c.loop-i-test.false
