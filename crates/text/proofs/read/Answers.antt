use native.Mathlib.Omega.{arith}
use Rattle.std.proofs.lemmas.Result.{err_from_is_err_and}
use Rattle.text.proofs.TextLaws.{long-text, by-breach, answers-refused, answers-judged}
use Rattle.text.specs.declared.TextRefusal.TheVariants as text
use Rattle.condition_reader.specs.Steps.{refusal_in, place_in}
use Rattle.refusals.specs.declared.Refusal.TheVariants.{Line}
use Rattle.text.proofs.read.Goals as goal

pub returns-then-text-gt-MAX_TEXT : goal.returns-then-text-gt-MAX_TEXT
returns-then-text-gt-MAX_TEXT c = let w = answers-refused c.args.text.now c.args.words.now (text.Table (Line 1)) (long-text _ c.if-text-gt-MAX_TEXT.true) in
    record { refusal_value = w.0; table_value = w.1; if_accepted = w.2 }

pub returns-in_err-parts : goal.returns-in_err-parts
returns-in_err-parts c =
    let p = err_from_is_err_and c.from_residual.result c.from_residual.ensures.1 in
    let q = c.in_err-parts.ensures in
    let b = c.in_err-parts.field-0.0 in
    let w = answers-refused c.args.text.now c.read_parts.new.words (text.At (refusal_in b) (place_in b))
    (by-breach _ c.if-text-gt-MAX_TEXT.false _ _ q.0 q.1) in
    rw (p.1, p.2) (record { refusal_value = w.0; table_value = w.1; if_accepted = w.2 })

pub returns : goal.returns
returns c =
    let q = c.in_ok-parts.ensures in
    let w = answers-judged c.args.text.now c.if-text-gt-MAX_TEXT.false q.0 q.1 q.2 q.3 _ _ _ _ q.5 q.4 q.7 q.6 _ _
    (omega (arith, q.9, c.read_parts.auto.words, c.requires)) q.8 _ c.tabulate.ensures in
    record { refusal_value = w.0; table_value = w.1; if_accepted = w.2 }
