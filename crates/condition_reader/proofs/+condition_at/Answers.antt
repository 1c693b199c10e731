use Prim.Native.Nat.{ℕ, ◌-◌, ◌<◌}
use mathlib.Core.Path.{sym, ap, ◌∙◌}
use mathlib.Core.Bool.{true, false}
use native.Mathlib.Omega.{arith}
use borrow.Author.Rules.{rules}
use lib.ListN.{drop, set}
use Rattle.std.specs.Prelude.{Ok, Err}
use Rattle.text_format.specs.Reading.{condition, negation, bracket}
use Rattle.condition_reader.specs.Steps.{Goes, lettered}
use Rattle.condition_reader.proofs.OpeningLaws.{begins-other, begins-returns, begins-ends, deep-not, deep-bracket, begins-not, begins-bracket}
use Rattle.condition_reader.proofs.ConditionLaws.{same-goes, not-word, not-inner, not-goes, bracket-open, bracket-left, bracket-joint, bracket-right, bracket-close, right-count, bracket-goes}
use Rattle.condition_reader.proofs.+condition_at.Goals as goal
use Rattle.condition_reader.proofs.+condition_at.Goals.{In_ok-close-in-Bracket}

pub returns-in-Other : goal.returns-in-Other
returns-in-Other t c = (begins-other _ _ (sym c.in-Other.is ∙ c.begins-first.ensures), c.requires.inside)

pub returns-in-Returns : goal.returns-in-Returns
returns-in-Returns t c =
    let a = c.args in
    same-goes a.text.now a.words.now c.put_atom.new.words (condition a.depth) (lettered true) a.step c.put_atom.result
    (begins-returns (drop a.step.at a.text.now) a.depth (sym c.in-Returns.is ∙ c.begins-first.ensures)) c.put_atom.ensures

pub returns-in-Ends : goal.returns-in-Ends
returns-in-Ends t c =
    let a = c.args in
    same-goes a.text.now a.words.now c.put_atom-in-Ends.new.words (condition a.depth) (lettered false) a.step c.put_atom-in-Ends.result
    (begins-ends (drop a.step.at a.text.now) a.depth (sym c.in-Ends.is ∙ c.begins-first.ensures)) c.put_atom-in-Ends.ensures

pub returns-then-depth-eq0 : goal.returns-then-depth-eq0
returns-then-depth-eq0 t c =
    (deep-not _ _ c.if-depth-eq0.true (sym c.in-Not.is ∙ c.begins-first.ensures), c.requires.inside)

pub returns-then-depth-eq0-2 : goal.returns-then-depth-eq0-2
returns-then-depth-eq0-2 t c =
    (deep-bracket _ _ c.if-depth-eq0-2.true (sym c.in-Bracket.is ∙ c.begins-first.ensures), c.requires.inside)

pub returns-in_err-word-in-Not : goal.returns-in_err-word-in-Not
returns-in_err-word-in-Not t c =
    let a = c.args in
    let b = begins-not (drop a.step.at a.text.now) a.depth c.if-depth-eq0.false (sym c.in-Not.is ∙ c.begins-first.ensures) in
    let q = c.in_err-word-in-Not.ensures in
    let e : Goes a.text.now a.words.now a.words.now (condition a.depth) a.step (Err c.in_err-word-in-Not.field-0.0) =
    (b ∙ not-word _ _ _ _ q.0, q.1) in
    search rules

pub returns-in_err-inner-in-Not : goal.returns-in_err-inner-in-Not
returns-in_err-inner-in-Not t c =
    let a = c.args in
    let b = begins-not (drop a.step.at a.text.now) a.depth c.if-depth-eq0.false (sym c.in-Not.is ∙ c.begins-first.ensures) in
    let p = c.in_ok-word-in-Not.ensures in
    let q = c.in_err-inner-in-Not.ensures in
    let e : Goes a.text.now a.words.now c.condition_at.new.words (condition a.depth) a.step (Err c.in_err-inner-in-Not.field-0.0) =
    (b ∙ not-inner _ _ _ p.0.0 _ _ q.0, q.1) in
    search rules

pub returns-in_ok-inner-in-Not : goal.returns-in_ok-inner-in-Not
returns-in_ok-inner-in-Not t c =
    let a = c.args in
    let b = begins-not (drop a.step.at a.text.now) a.depth c.if-depth-eq0.false (sym c.in-Not.is ∙ c.begins-first.ensures) in
    let inner = condition (a.depth - 1) in
    same-goes a.text.now a.words.now c.push.new.words (condition a.depth) (negation inner) a.step (Ok c.push.result) b
    (not-goes a.text.now a.words.now c.condition_at.new.words inner a.step c.in_ok-word-in-Not.word c.in_ok-inner-in-Not.inner c.requires
    c.condition_at.auto.words c.in_ok-inner-in-Not.ensures c.in_ok-word-in-Not.ensures c.push.new.words c.push.result c.push.ensures)

pub returns-in_err-open-in-Bracket : goal.returns-in_err-open-in-Bracket
returns-in_err-open-in-Bracket t c =
    let a = c.args in
    let b = begins-bracket (drop a.step.at a.text.now) a.depth c.if-depth-eq0-2.false (sym c.in-Bracket.is ∙ c.begins-first.ensures) in
    let q = c.in_err-open-in-Bracket.ensures in
    let e : Goes a.text.now a.words.now a.words.now (condition a.depth) a.step (Err c.in_err-open-in-Bracket.field-0.0) =
    (b ∙ bracket-open _ _ _ _ q.0, q.1) in
    search rules

pub returns-in_err-left-in-Bracket : goal.returns-in_err-left-in-Bracket
returns-in_err-left-in-Bracket t c =
    let a = c.args in
    let b = begins-bracket (drop a.step.at a.text.now) a.depth c.if-depth-eq0-2.false (sym c.in-Bracket.is ∙ c.begins-first.ensures) in
    let o = c.in_ok-open-in-Bracket.ensures in
    let q = c.in_err-left-in-Bracket.ensures in
    let e : Goes a.text.now a.words.now c.condition_at-in-Bracket.new.words (condition a.depth) a.step
    (Err c.in_err-left-in-Bracket.field-0.0) =
    (b ∙ bracket-left _ _ _ o.0.0 _ _ q.0, q.1) in
    search rules

pub returns-in_err-joint-in-Bracket : goal.returns-in_err-joint-in-Bracket
returns-in_err-joint-in-Bracket t c =
    let a = c.args in
    let b = begins-bracket (drop a.step.at a.text.now) a.depth c.if-depth-eq0-2.false (sym c.in-Bracket.is ∙ c.begins-first.ensures) in
    let o = c.in_ok-open-in-Bracket.ensures in
    let l = c.in_ok-left-in-Bracket.ensures in
    let q = c.in_err-joint-in-Bracket.ensures in
    let e : Goes a.text.now a.words.now c.condition_at-in-Bracket.new.words (condition a.depth) a.step
    (Err c.in_err-joint-in-Bracket.field-0.0) =
    (b ∙ bracket-joint _ _ _ o.0.0 _ l.0 l.1 _ _ q.0, q.1) in
    search rules

pub returns-in_err-right-in-Bracket : goal.returns-in_err-right-in-Bracket
returns-in_err-right-in-Bracket t c =
    let a = c.args in
    let b = begins-bracket (drop a.step.at a.text.now) a.depth c.if-depth-eq0-2.false (sym c.in-Bracket.is ∙ c.begins-first.ensures) in
    let o = c.in_ok-open-in-Bracket.ensures in
    let l = c.in_ok-left-in-Bracket.ensures in
    let j = c.in_ok-joint-in-Bracket.ensures in
    let q = c.in_err-right-in-Bracket.ensures in
    let r = rw c.push-behind.ensures.1 at q.0 in
    let e : Goes a.text.now a.words.now c.condition_at-in-Bracket-2.new.words (condition a.depth) a.step
    (Err c.in_err-right-in-Bracket.field-0.0) =
    (b ∙ bracket-right _ _ _ o.0.0 _ l.0 l.1 _ _ j.0 _ _ r, q.1) in
    search rules

pub returns-in_err-close-in-Bracket : goal.returns-in_err-close-in-Bracket
returns-in_err-close-in-Bracket t c =
    let a = c.args in
    let b = begins-bracket (drop a.step.at a.text.now) a.depth c.if-depth-eq0-2.false (sym c.in-Bracket.is ∙ c.begins-first.ensures) in
    let o = c.in_ok-open-in-Bracket.ensures in
    let l = c.in_ok-left-in-Bracket.ensures in
    let j = c.in_ok-joint-in-Bracket.ensures in
    let r = c.in_ok-right-in-Bracket.ensures in
    let r' = rw c.push-behind.ensures.1 at r.1 in
    let q = c.in_err-close-in-Bracket.ensures in
    let e : Goes a.text.now a.words.now c.condition_at-in-Bracket-2.new.words (condition a.depth) a.step
    (Err c.in_err-close-in-Bracket.field-0.0) =
    (b ∙ bracket-close _ _ _ o.0.0 _ l.0 l.1 _ _ j.0 _ r.0 r' _ _ q.0, q.1) in
    search rules

-- the word of a connective stands before those of its right side
counted : (t : ℕ) (c : In_ok-close-in-Bracket t) → c.in_ok-joint-in-Bracket.joint.step.len < c.in_ok-close-in-Bracket.close.len
counted t c =
    let a = c.args in
    let inner = condition (a.depth - 1) in
    let long = c.condition_at-in-Bracket.auto.words in
    let long' = c.condition_at-in-Bracket-2.auto.words ∙ c.push-behind.auto.words ∙ long in
    omega (arith, right-count a.text.now a.words.now c.condition_at-in-Bracket.new.words inner a.step c.in_ok-open-in-Bracket.open c.in_ok-left-in-Bracket.left c.requires long c.in_ok-left-in-Bracket.ensures c.in_ok-open-in-Bracket.ensures c.in_ok-joint-in-Bracket.joint c.in_ok-joint-in-Bracket.ensures c.push-behind.new.words c.condition_at-in-Bracket-2.new.words c.joint_word.result c.push-behind.result c.in_ok-right-in-Bracket.right c.in_ok-close-in-Bracket.close c.push-behind.ensures c.in_ok-right-in-Bracket.ensures c.in_ok-close-in-Bracket.ensures long')

pub overflow_sub-close : goal.overflow_sub-close
overflow_sub-close t c = omega (arith, counted t (goal.at.overflow_sub-close t c).In_ok-close-in-Bracket)

pub overflow_sub-close-in-Bracket : goal.overflow_sub-close-in-Bracket
overflow_sub-close-in-Bracket t c = omega (arith, counted t (goal.at.overflow_sub-close-in-Bracket t c).In_ok-close-in-Bracket)

pub returns-in_ok-close-in-Bracket : goal.returns-in_ok-close-in-Bracket
returns-in_ok-close-in-Bracket t c =
    let a = c.args in
    let b = begins-bracket (drop a.step.at a.text.now) a.depth c.if-depth-eq0-2.false (sym c.in-Bracket.is ∙ c.begins-first.ensures) in
    let inner = condition (a.depth - 1) in
    let long = c.condition_at-in-Bracket.auto.words in
    let long' = c.condition_at-in-Bracket-2.auto.words ∙ c.push-behind.auto.words ∙ long in
    let j = c.in_ok-joint-in-Bracket.joint in
    let end = c.condition_at-in-Bracket-2.new.words in
    let k = c.in_ok-close-in-Bracket.close in
    let after = set end j.step.len c.joint_word-in-Bracket.result in
    same-goes a.text.now a.words.now after (condition a.depth) (bracket inner) a.step (Ok k) b
    (bracket-goes a.text.now a.words.now c.condition_at-in-Bracket.new.words inner a.step c.in_ok-open-in-Bracket.open c.in_ok-left-in-Bracket.left c.requires long c.in_ok-left-in-Bracket.ensures c.in_ok-open-in-Bracket.ensures j c.in_ok-joint-in-Bracket.ensures c.push-behind.new.words end c.joint_word.result c.push-behind.result c.in_ok-right-in-Bracket.right k c.push-behind.ensures c.in_ok-right-in-Bracket.ensures c.in_ok-close-in-Bracket.ensures long' after
    (ap (set end j.step.len) c.joint_word-in-Bracket.ensures))
