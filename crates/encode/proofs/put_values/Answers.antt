use native.Mathlib.Omega.{arith}
use borrow.Author.Rules.{rules}
use Rattle.encode.specs.Encoded.{joined}
use Rattle.encode.proofs.PutLaws.{values-more, values-done}
use Rattle.encode.proofs.put_values.Goals as goal

pub loop-x-init : goal.loop-x-init
unfolding joined
loop-x-init c = search rules

pub loop-x-preserved : goal.loop-x-preserved
loop-x-preserved c = let v = c.loop-x in
    let a = c.args in
    (omega arith, omega arith, values-more a.values a.block.now v.block c.put_word.new.block a.at v.x v.invariant.2 (rw c.from.ensures at c.put_word.ensures))

pub returns : goal.returns
returns c = let v = c.loop-x in
    let a = c.args in
    values-done a.values a.block.now v.block a.at v.x (omega arith) v.invariant.0 v.invariant.2
