use mathlib.Core.Path.{◌∙◌}
use borrow.Author.Rules.{rules}
use mathlib.Core.List.{◌++◌}
use lib.ListN.{take, drop}
use lib.Seq.{length-take-le}
use Rattle.condition_reader.specs.Words.{max_words}
use Rattle.std.specs.Prelude.{Err}
use Rattle.text.specs.Judged.{OutcomeSays}
use Rattle.text.proofs.OutcomeLaws.{outcome-bad, outcome-on, outcome-words, few}
use Rattle.text.proofs.read_outcome.Goals as goal

pub returns-in_err-step : goal.returns-in_err-step
returns-in_err-step c =
    let a = c.args in
    let q = c.in_err-step.ensures in
    let e : OutcomeSays a.text.now a.from (c.read_condition.new.words ++ drop max_words a.words.now) (Err c.in_err-step.field-0.0) =
    (outcome-bad a.text.now a.words.now c.read_condition.new.words a.from _ q, q.1) in
    search rules

pub returns-in_err-read_end : goal.returns-in_err-read_end
returns-in_err-read_end c =
    let a = c.args in
    let g = c.in_ok-step.ensures in
    let q = c.in_err-read_end.ensures in
    let e : OutcomeSays a.text.now a.from (c.read_condition.new.words ++ drop max_words a.words.now) (Err c.in_err-read_end.field-0.0) =
    (outcome-on a.text.now (take max_words a.words.now) c.read_condition.new.words a.from c.in_ok-step.step g ∙ q.0 g.0, q.1) in
    search rules

pub returns : goal.returns
returns c =
    let a = c.args in
    let s = a.text.now in
    let g = c.in_ok-step.ensures in
    let before = take max_words a.words.now in
    let after = c.read_condition.new.words in
    let r = c.in_ok-step.step in
    let long = c.read_condition.auto.words ∙ length-take-le max_words a.words.now c.requires.2 in
    let rest = drop max_words a.words.now in (
      g.0,
      outcome-on s before after a.from r g ∙ c.in_ok-read_end.ensures g.0,
      outcome-words s before after a.from r g c.requires.1 long rest,
      few s before after a.from r g c.requires.1 long rest,
    )
