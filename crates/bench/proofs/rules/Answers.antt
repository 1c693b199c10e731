use Rattle.std.proofs.lemmas.Result.{err_from_is_err_and}
use Rattle.block.specs.Reading.{table_of}
use Rattle.refusals.specs.Refusals.{refused_by}
use Rattle.refusals.proofs.LineLaws.{refuses}
use Rattle.bench.proofs.EntryLaws.{table-read, small-read, rules-declined, rules-ruled}
use Rattle.table.specs.Counts.{Small}
use mathlib.Core.Path.{ap, sym, subst, ◌∙◌}
use Rattle.bench.proofs.rules.Goals as goal

pub pair-requires : goal.pair-requires
pair-requires c =
    let ok = sym c.read.ensures.0 ∙ ap refused_by c.in_ok-t.was in
    let e = sym (ap table_of c.in_ok-t.was) ∙ c.read.ensures.1 ∙ table-read _ ok in
    subst Small (sym e) (small-read _ ok)

pub returns : goal.returns
returns c =
    let ok = sym c.read.ensures.0 ∙ ap refused_by c.in_ok-t.was in
    let e = sym (ap table_of c.in_ok-t.was) ∙ c.read.ensures.1 ∙ table-read _ ok in
    rules-ruled _ _ _ _ _ _ ok e c.pair.ensures

pub returns-in_err-t : goal.returns-in_err-t
returns-in_err-t c =
    let p = err_from_is_err_and c.from_residual.result c.from_residual.ensures.1 in
    rw (p.1, p.2) (rules-declined _ _ _ _ _ (sym (ap refused_by c.in_err-t.was) ∙ c.read.ensures.0) (refuses _))
