use Rattle.std.proofs.lemmas.Result.{err_from_is_err_and}
use Rattle.block.specs.Reading.{table_of}
use Rattle.refusals.specs.Refusals.{refused_by}
use Rattle.refusals.proofs.LineLaws.{refuses}
use Rattle.bench.proofs.EntryLaws.{table-read, good-read}
use Rattle.bench.proofs.OutcomeLaws.{locations-read, listing-declined, listing-answered}
use Prim.Native.Nat.{◌<◌}
use Rattle.table.specs.declared.Table.{Table}
use Rattle.placing.specs.GoodTable.{GoodTable}
use mathlib.Core.Path.{ap, sym, subst, ◌∙◌}
use Rattle.bench.proofs.next_outcomes.Goals as goal

pub list-requires : goal.list-requires
list-requires c =
    let ok = sym c.read.ensures.0 ∙ ap refused_by c.in_ok-t.was in
    let e = sym (ap table_of c.in_ok-t.was) ∙ c.read.ensures.1 ∙ table-read _ ok in
    (subst GoodTable (sym e) (good-read _ ok), subst (λ (t : Table). 0 < t.locations) (sym e) (locations-read _ ok), c.requires)

pub returns : goal.returns
returns c =
    let ok = sym c.read.ensures.0 ∙ ap refused_by c.in_ok-t.was in
    let e = sym (ap table_of c.in_ok-t.was) ∙ c.read.ensures.1 ∙ table-read _ ok in
    let l = c.list in
    let w = listing-answered c.args.most c.args.bytes.now c.args.previous.now c.args.out.now c.args.allowance _ l.result _ ok e (l.ensures.out_after, (l.ensures.out_after_2, l.ensures.result_value)) in
    record { out_after = w.0; out_after_2 = w.1.0; result_value = w.1.1 }

pub returns-in_err-t : goal.returns-in_err-t
returns-in_err-t c =
    let p = err_from_is_err_and c.from_residual.result c.from_residual.ensures.1 in
    let w = listing-declined c.args.most c.args.bytes.now c.args.previous.now c.args.out.now c.args.allowance _ (sym (ap refused_by c.in_err-t.was) ∙ c.read.ensures.0) (refuses _) in
    rw (p.1, p.2) (record { out_after = w.0; out_after_2 = w.1.0; result_value = w.1.1 })
