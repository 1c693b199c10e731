use Rattle.std.proofs.lemmas.Result.{err_from_is_err_and}
use Rattle.block.specs.Reading.{table_of}
use Rattle.refusals.specs.Refusals.{refused_by}
use Rattle.refusals.proofs.LineLaws.{refuses}
use Rattle.bench.proofs.EntryLaws.{table-read, good-read, block-declined, block-answered}
use Rattle.model.specs.Prefixes.{clean}
use Rattle.placing.specs.GoodTable.{GoodTable}
use mathlib.Core.Path.{ap, sym, subst, ◌∙◌}
use Rattle.bench.proofs.search.Goals as goal

pub search-requires : goal.search-requires
search-requires c =
    let ok = sym c.read.ensures.0 ∙ ap refused_by c.in_ok-test.was in
    let e = sym (ap table_of c.in_ok-test.was) ∙ c.read.ensures.1 ∙ table-read _ ok in
    subst GoodTable (sym e) (good-read _ ok)

pub returns : goal.returns
returns c =
    let ok = sym c.read.ensures.0 ∙ ap refused_by c.in_ok-test.was in
    let e = sym (ap table_of c.in_ok-test.was) ∙ c.read.ensures.1 ∙ table-read _ ok in
    let s = c.search.ensures in
    let w = block-answered clean c.args.bytes.now c.args.start.now c.args.out.now c.args.allowance _ _ _ _ ok e (s.out_after, (s.out_after_2, s.result_value)) in
    record { out_after = w.0; out_after_2 = w.1.0; result_value = w.1.1 }

pub returns-in_err-test : goal.returns-in_err-test
returns-in_err-test c =
    let p = err_from_is_err_and c.from_residual.result c.from_residual.ensures.1 in
    let w = block-declined clean c.args.bytes.now c.args.start.now c.args.out.now c.args.allowance _ (sym (ap refused_by c.in_err-test.was) ∙ c.read.ensures.0) (refuses _) in
    rw (p.1, p.2) (record { out_after = w.0; out_after_2 = w.1.0; result_value = w.1.1 })
