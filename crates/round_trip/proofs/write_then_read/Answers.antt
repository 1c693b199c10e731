use Rattle.std.proofs.lemmas.Result.{err_from_is_err_and}
use Rattle.refusals.specs.Refusals.{refused_by}
use Rattle.refusals.proofs.LineLaws.{refuses}
use Rattle.refusals.proofs.PassedLaws.{unless-refused}
use Rattle.block.specs.Reading.{no_table}
use Rattle.round_trip.proofs.TripLaws.{read-trip, refused-trip}
use mathlib.Core.Path.{refl, sym, ap, ◌∙◌}
use Rattle.round_trip.proofs.write_then_read.Goals as goal

pub returns : goal.returns
returns c = let w = c.write.ensures in
    let r = read-trip _ _ _ c.table.ensures (sym (ap refused_by c.in_ok-write.was) ∙ w.result_value) w.out_after _ _ c.read.ensures in
    record { refusal_value = r.0; table_value = r.1.0; out_after = r.1.1 }

pub returns-in_err-write : goal.returns-in_err-write
returns-in_err-write c = let w = c.write.ensures in
    let p = err_from_is_err_and c.from_residual.result c.from_residual.ensures.1 in
    let r = refused-trip _ _ _ _ (sym (ap refused_by c.in_err-write.was) ∙ w.result_value) w.out_after _ no_table
    (refl, sym (unless-refused _ c.args.t no_table (refuses _))) in
    rw (p.1, p.2) (record { refusal_value = r.0; table_value = r.1.0; out_after = r.1.1 })
