use mathlib.Core.Path.{sym, ◌∙◌}
use native.Mathlib.Omega.{arith}
use Rattle.text.specs.Judged.{word_unknown}
use Rattle.text.proofs.UnknownLaws.{slot_same, any-hit, any-skip, any-end}
use Rattle.text.proofs.names_unknown.Goals as goal

pub returns-then-word_unknown : goal.returns-then-word_unknown
returns-then-word_unknown c = let v = c.loop-i in
    sym
    (v.invariant.1 ∙ any-hit (word_unknown c.args.t) c.args.words.now _ v.i c.requires.0 (omega arith)
    (sym (slot_same c.args.t _ c.requires.1) ∙ sym c.word_unknown.ensures ∙ c.if-word_unknown.true))

pub loop-i-preserved : goal.loop-i-preserved
loop-i-preserved c = let v = c.loop-i in (
  omega arith,
  v.invariant.1 ∙ any-skip (word_unknown c.args.t) c.args.words.now _ v.i c.requires.0 (omega arith)
      (sym (slot_same c.args.t _ c.requires.1) ∙ sym c.word_unknown.ensures ∙ c.if-word_unknown.false),
)

pub returns : goal.returns
returns c = let v = c.loop-i in
    sym (v.invariant.1 ∙ any-end (word_unknown c.args.t) c.args.words.now _ v.i c.requires.0 c.loop-i-test.false)
