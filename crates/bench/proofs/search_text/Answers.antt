use lib.Seq.{length-take-le}
use mathlib.Core.Path.{ap, sym, ◌∙◌}
use Rattle.std.proofs.lemmas.Result.{err_from_is_err_and}
use Rattle.text.specs.TextRefusals.{text_refused_by, text_table_of}
use Rattle.text.proofs.JudgeLaws.{text-refuses}
use Rattle.bench.proofs.EntryLaws.{text-declined, text-answered, words_inside, good-given}
use Rattle.bench.proofs.search_text.Goals as goal

pub slice_bounds-words-end : goal.slice_bounds-words-end
slice_bounds-words-end c =
    words_inside _ _ _ _ c.in_ok-test.ensures.if_accepted (sym c.read.ensures.refusal_value ∙ ap text_refused_by c.in_ok-test.was)

pub slice_bounds-search_for-end : goal.slice_bounds-search_for-end
slice_bounds-search_for-end c =
    let ok = sym c.read.ensures.refusal_value ∙ ap text_refused_by c.in_ok-test.was in
    sym (length-take-le _ _ (words_inside _ _ _ _ c.in_ok-test.ensures.if_accepted ok))

pub search_for-requires : goal.search_for-requires
search_for-requires c =
    good-given _ _ _ _ c.in_ok-test.ensures.if_accepted (sym c.read.ensures.refusal_value ∙ ap text_refused_by c.in_ok-test.was)

pub returns-in_err-test : goal.returns-in_err-test
returns-in_err-test c =
    let p = err_from_is_err_and c.from_residual.result c.from_residual.ensures.1 in
    let w = text-declined c.args.text.now c.args.start.now c.args.out.now c.args.allowance _
    (sym (ap text_refused_by c.in_err-test.was) ∙ c.read.ensures.refusal_value) (text-refuses _) in
    rw (p.1, p.2) (record { out_after = w.0; out_after_2 = w.1.0; result_value = w.1.1 })

pub returns-in_err-ending : goal.returns-in_err-ending
returns-in_err-ending c =
    let p = err_from_is_err_and c.from_residual-in_err-ending.result c.from_residual-in_err-ending.ensures.1 in
    let ok = sym c.read.ensures.refusal_value ∙ ap text_refused_by c.in_ok-test.was in
    let t = sym (ap text_table_of c.in_ok-test.was) ∙ c.read.ensures.table_value in
    let w = rw c.in_err-ending.was at (text-answered c.args.text.now c.args.start.now c.args.out.now c.args.allowance _ _ _ _ _ ok t
    c.in_ok-test.ensures.if_accepted c.search_for.ensures) in
    rw (p.1, p.2) (record { out_after = w.0; out_after_2 = w.1.0; result_value = w.1.1 })

pub returns : goal.returns
returns c =
    let ok = sym c.read.ensures.refusal_value ∙ ap text_refused_by c.in_ok-test.was in
    let t = sym (ap text_table_of c.in_ok-test.was) ∙ c.read.ensures.table_value in
    let w = rw c.in_ok-ending.was at (text-answered c.args.text.now c.args.start.now c.args.out.now c.args.allowance _ _ _ _ _ ok t
    c.in_ok-test.ensures.if_accepted c.search_for.ensures) in
    record { out_after = w.0; out_after_2 = w.1.0; result_value = w.1.1 }
