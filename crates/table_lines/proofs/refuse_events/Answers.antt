use mathlib.Core.Path.{sym, ap, ◌∙◌}
use Rattle.std.proofs.lemmas.Result.{err_from_is_err_and}
use Rattle.refusals.specs.Refusals.{refused_by}
use Rattle.refusals.proofs.LineLaws.{refuses}
use Rattle.table_lines.proofs.UsedLaws.{in-test, by-record, by-21, by-none}
use Rattle.table_lines.proofs.refuse_events.Goals as goal

pub line21-requires : goal.line21-requires
line21-requires c = let ok = sym c.refuse_records.ensures ∙ ap refused_by c.in_ok-refuse_records.was in
    (c.requires.0, c.requires.1, in-test _ ok)

pub returns-in_err-refuse_records : goal.returns-in_err-refuse_records
returns-in_err-refuse_records c =
    let p = err_from_is_err_and c.from_residual.result c.from_residual.ensures.1 in
    rw (p.1, p.2) (by-record _ _ _ c.in_err-refuse_records.ensures (refuses _))

pub returns-then-line21 : goal.returns-then-line21
returns-then-line21 c = let ok = sym c.refuse_records.ensures ∙ ap refused_by c.in_ok-refuse_records.was in
    by-21 c.args.t _ ok (rw c.from.ensures at (sym c.line21.ensures ∙ c.if-line21.true))

pub returns : goal.returns
returns c = let ok = sym c.refuse_records.ensures ∙ ap refused_by c.in_ok-refuse_records.was in
    by-none c.args.t _ ok (rw c.from.ensures at (sym c.line21.ensures ∙ c.if-line21.false))
