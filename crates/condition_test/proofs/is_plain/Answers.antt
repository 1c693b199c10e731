use mathlib.Core.Path.{refl, sym, ap, ◌∙◌}
use native.Mathlib.Omega.{arith}
use lib.Seq.{take_all}
use Rattle.lists.specs.Lists.{all}
use Rattle.lists.proofs.TakeLaws.{all_more, all-fails}
use Rattle.condition_test.specs.Machine.{plain_word}
use Rattle.condition_test.proofs.is_plain.Goals as goal

pub loop-word-init : goal.loop-word-init
loop-word-init c = (omega arith, refl)

pub returns-then-not-is_plain_word : goal.returns-then-not-is_plain_word
returns-then-not-is_plain_word c = sym (all-fails plain_word c.args.words.now c.loop-word.word-index c.loop-word-test.true
    (sym c.is_plain_word.ensures ∙ c.if-not-is_plain_word.true))

pub loop-word-preserved : goal.loop-word-preserved
loop-word-preserved c = let v = c.loop-word in (
  omega (arith, c.loop-word-test.true),
  all_more plain_word _ v.word-index c.loop-word-test.true v.invariant.1
      (sym c.is_plain_word.ensures ∙ c.if-not-is_plain_word.false),
)

pub returns : goal.returns
returns c = let v = c.loop-word in
    sym (ap (all plain_word) (sym (take_all v.word-index _ c.loop-word-test.false)) ∙ v.invariant.1)
