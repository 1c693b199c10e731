use Rattle.std.proofs.lemmas.Result.{err_from_is_err_and}
use Rattle.block.specs.Reading.{table_of}
use Rattle.refusals.specs.Refusals.{refused_by}
use Rattle.refusals.proofs.LineLaws.{refuses}
use Rattle.bench.proofs.EntryLaws.{table-read, good-read, decide-declined, decide-answered}
use Rattle.placing.specs.GoodTable.{GoodTable}
use mathlib.Core.Path.{refl, ap, sym, subst, ◌∙◌}
use Rattle.bench.proofs.decide_with.Goals as goal

pub decide_with-requires : goal.decide_with-requires
decide_with-requires c =
    let ok = sym c.read.ensures.0 ∙ ap refused_by c.in_ok-t.was in
    let e = sym (ap table_of c.in_ok-t.was) ∙ c.read.ensures.1 ∙ table-read _ ok in
    subst GoodTable (sym e) (good-read _ ok)

pub returns : goal.returns
returns c =
    let ok = sym c.read.ensures.0 ∙ ap refused_by c.in_ok-t.was in
    let e = sym (ap table_of c.in_ok-t.was) ∙ c.read.ensures.1 ∙ table-read _ ok in
    let d = c.decide_with in
    let w = decide-answered c.args.bytes.now c.args.start.now c.args.out.now _ d.result _ ok e d.ensures.decides in
    record { out_after = w.0; out_after_2 = w.1.0; result_value = w.1.1; memo_after = d.ensures.memo_after }

pub returns-in_err-t : goal.returns-in_err-t
returns-in_err-t c =
    let p = err_from_is_err_and c.from_residual.result c.from_residual.ensures.1 in
    let w = decide-declined c.args.bytes.now c.args.start.now c.args.out.now _ (sym (ap refused_by c.in_err-t.was) ∙ c.read.ensures.0) (refuses _) in
    rw (p.1, p.2) (record { out_after = w.0; out_after_2 = w.1.0; result_value = w.1.1; memo_after = refl })
