use Rattle.std.proofs.lemmas.Result.{err_from_is_err_and}
use Rattle.block.specs.Reading.{table_of}
use Rattle.refusals.specs.Refusals.{refused_by}
use Rattle.refusals.proofs.LineLaws.{refuses}
use Rattle.bench.proofs.EntryLaws.{table-read, small-read, returns-declined, returns-judged}
use Rattle.table.specs.Counts.{Small}
use mathlib.Core.Path.{ap, sym, subst, ◌∙◌}
use Rattle.bench.proofs.returns.Goals as goal

pub determine-requires : goal.determine-requires
determine-requires c =
    let ok = sym c.read.ensures.0 ∙ ap refused_by c.in_ok-t.was in
    let e = sym (ap table_of c.in_ok-t.was) ∙ c.read.ensures.1 ∙ table-read _ ok in
    subst Small (sym e) (small-read _ ok)

pub returns : goal.returns
returns c =
    let ok = sym c.read.ensures.0 ∙ ap refused_by c.in_ok-t.was in
    let e = sym (ap table_of c.in_ok-t.was) ∙ c.read.ensures.1 ∙ table-read _ ok in
    let d = c.determine.ensures in
    let w = returns-judged c.args.bytes.now c.args.order.now c.args.out.now _ _ _ ok e (d.result_value, d.out_after) in
    record { result_value = w.0; out_after = w.1 }

pub returns-in_err-t : goal.returns-in_err-t
returns-in_err-t c =
    let p = err_from_is_err_and c.from_residual.result c.from_residual.ensures.1 in
    let w = returns-declined c.args.bytes.now c.args.order.now c.args.out.now _ (sym (ap refused_by c.in_err-t.was) ∙ c.read.ensures.0) (refuses _) in
    rw (p.1, p.2) (record { result_value = w.0; out_after = w.1 })
