use mathlib.Core.Path.{ap}
use lib.ListN.{length}
use native.Mathlib.Omega.{arith}
use Rattle.capi.proofs.PartLaws.{none-there, some-there, begins-within}
use Rattle.capi.proofs.ct_part_of.Goals as goal

pub overflow_mul-result : goal.overflow_mul-result
overflow_mul-result c = omega (arith, begins-within _ c.args.k _ (ap length c.part-block.ensures) (omega (arith, c.if-block-eq0.false)))

pub returns-then-block-eq0 : goal.returns-then-block-eq0
returns-then-block-eq0 c = let w = none-there c.args.suite.now c.args.k _ _ (ap length c.part-block.ensures) (omega (arith, c.if-block-eq0.true)) c.refusal_word.ensures in
    record { word_value = w.0; offset_value = w.1.0; length_value = w.1.1 }

pub returns-else-block-eq0 : goal.returns-else-block-eq0
returns-else-block-eq0 c = let w = some-there c.args.suite.now c.args.k _ _ (ap length c.part-block.ensures) (omega (arith, c.if-block-eq0.false)) c.good_word.ensures in
    record { word_value = w.0; offset_value = w.1.0; length_value = w.1.1 }
