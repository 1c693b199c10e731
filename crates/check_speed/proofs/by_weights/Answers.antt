use mathlib.Core.Path.{◌∙◌}
use lib.ListN.{take}
use lib.Seq.{length-take-le}
use native.Mathlib.Omega.{arith}
use borrow.Author.Rules.{rules}
use Rattle.checksum.specs.Checksum.{covered, weighted_from}
use Rattle.check_speed.proofs.WeightLaws.{weighted-more, weighted-done}
use Rattle.check_speed.proofs.by_weights.Goals as goal

pub loop-i-init : goal.loop-i-init
unfolding weighted_from
loop-i-init c = search rules

pub weighted-sum-requires : goal.weighted-sum-requires
weighted-sum-requires c = omega (arith, length-take-le covered c.args.s.now c.requires)

pub loop-i-preserved : goal.loop-i-preserved
loop-i-preserved c = let v = c.loop-i in
    let n = length-take-le covered c.args.s.now c.requires in
    let w = weighted-more (take covered c.args.s.now) v.i (omega arith) in
    (omega (arith, w), omega (arith, n))

pub returns : goal.returns
returns c = c.loop-i.invariant.0 ∙ weighted-done _ _ (omega arith)

pub overflow_add-sum : goal.overflow_add-sum
overflow_add-sum c = omega (arith, length-take-le covered c.args.s.now c.requires)
