use mathlib.Core.Path.{refl, sym, ap, ◌∙◌}
use Rattle.std.proofs.lemmas.Result.{err_from_is_err_and}
use Rattle.refusals.specs.TableLines.{table_lines}
use Rattle.refusals.specs.Refusals.{refused_by}
use Rattle.refusals.proofs.LineLaws.{refuses}
use Rattle.refusals.proofs.PassedLaws.{unless-refused}
use Rattle.encode.specs.Encoded.{encoded}
use Rattle.writer.proofs.WritingLaws.{writes-whole}
use Rattle.writer.proofs.write_whole.Goals as goal

pub returns : goal.returns
unfolding table_lines
returns c = let a = c.args in
    let w = writes-whole a.t a.out.now _ c.copy_from_slice.new.self c.requires (sym (ap refused_by c.in_ok-refuse.was) ∙ c.refuse.ensures) (c.copy_from_slice.ensures.after ∙ c.encode.ensures) in
    record { result_value = w.0; out_after = w.1 }

pub returns-in_err-refuse : goal.returns-in_err-refuse
unfolding table_lines
returns-in_err-refuse c = let a = c.args in
    let p = err_from_is_err_and c.from_residual.result c.from_residual.ensures.1 in
    let w = writes-whole a.t a.out.now _ a.out.now c.requires (sym (ap refused_by c.in_err-refuse.was) ∙ c.refuse.ensures)
    (sym (unless-refused _ (encoded a.t) a.out.now (refuses _))) in
    rw (p.1, p.2) (record { result_value = w.0; out_after = w.1 })
