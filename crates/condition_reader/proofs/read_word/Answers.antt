use Prim.Native.Nat.{ℕ, ◌+◌}
use mathlib.Core.Path.{◌≡◌, refl, sym, ap, ◌∙◌}
use native.Mathlib.Omega.{arith}
use lib.ListN.{length, drop}
use Rattle.text_format.specs.Reading.{word, got}
use mathlib.Core.List.{[]}
use Rattle.condition_reader.proofs.WordLaws.{word-done, word-other, word_same, get-same, get-other, not-so, not-other}
use Rattle.condition_reader.proofs.read_word.Goals as goal

pub returns-then-ne : goal.returns-then-ne
returns-then-ne c =
    let v = c.loop-i in
    let d = get-other _ _ _ _ c.get.ensures.lookup (not-so _ (sym c.ne.ensures ∙ c.if-ne.true)) in
    (v.invariant.0 ∙ word-other _ _ _ _ c.loop-i-test.true d, v.invariant.1)

pub loop-i-preserved : goal.loop-i-preserved
loop-i-preserved c =
    let v = c.loop-i in
    let a = c.args in
    let g = get-same _ _ _ _ c.get.ensures.lookup (not-other _ (sym c.ne.ensures ∙ c.if-ne.false)) in
    let e : a.at + v.i + 1 ≡ a.at + (v.i + 1) = omega arith in (
      v.invariant.0 ∙ word_same _ _ _ _ c.loop-i-test.true g.0 g.1
          ∙ ap (λ (k : ℕ). word (drop (v.i + 1) a.bytes.now) (drop k a.text.now)) e,
      omega (arith, g.0),
    )

pub returns : goal.returns
returns c =
    let v = c.loop-i in
    let a = c.args in
    let e : v.i ≡ length a.bytes.now = omega arith in (
      v.invariant.0 ∙ word-done a.text.now _ (a.at + v.i) _ c.loop-i-test.false
          ∙ ap (λ (k : ℕ). got [] (drop (a.at + k) a.text.now)) e,
      omega arith,
      refl,
    )
