use Rattle.std.proofs.lemmas.Result.{err_from_is_err_and}
use Rattle.refusals.specs.Refusals.{refused_by}
use Rattle.refusals.proofs.LineLaws.{refuses}
use Rattle.block.specs.Reading.{table_of}
use Rattle.round_trip.proofs.TripLaws.{refused-rewrite, rewrite-trip}
use mathlib.Core.Path.{sym, ap, ◌∙◌}
use Rattle.round_trip.proofs.read_then_write.Goals as goal

pub returns : goal.returns
returns c = let r = c.read.ensures in
    let w = rewrite-trip _ _ c.bytes.ensures (sym r.0 ∙ ap refused_by c.in_ok-t.was) _ (sym (ap table_of c.in_ok-t.was) ∙ r.1) _ _ (c.write.ensures.result_value, c.write.ensures.out_after) in
    record { result_value = w.0; out_after = w.1 }

pub returns-in_err-t : goal.returns-in_err-t
returns-in_err-t c =
    let p = err_from_is_err_and c.from_residual.result c.from_residual.ensures.1 in
    let w = refused-rewrite _ _ _ (sym (ap refused_by c.in_err-t.was) ∙ c.read.ensures.0) (refuses _) in
    rw (p.1, p.2) (record { result_value = w.0; out_after = w.1 })
