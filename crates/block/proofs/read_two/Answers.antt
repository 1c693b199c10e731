use mathlib.Core.Path.{◌≡◌, sym, ap, ◌∙◌}
use mathlib.Core.Bool.{not}
use borrow.Author.Tests.{eq-eqb, ne_eqb}
use Rattle.std.proofs.lemmas.Result.{err_from_is_err_and}
use Rattle.refusals.specs.Refusals.{refused_by}
use Rattle.refusals.specs.TableLines.{table_lines}
use Rattle.refusals.proofs.LineLaws.{whole_here, whole-next}
use Rattle.edition.specs.Limits.{two}
use Rattle.block.specs.Reading.{edition_refusal, edition_lines, length_lines}
use Rattle.block.proofs.ReadingLaws.{reads-as-refused, reads-as-declined, reads-as-table}
use Rattle.block.proofs.read_two.Goals as goal
use Rattle.block.proofs.read_two.Goals.{After-refuse}

-- lines 5 to 11 and 21 decide
decided : (c : After-refuse) → refused_by c.refuse.result ≡ edition_refusal two c.args.s.now
unfolding edition_refusal edition_lines length_lines table_lines
decided c =
    whole-next _ _ _ _ _ (ap not (eq-eqb _ _ c.if-s-ne-TEST.false))
    (whole-next _ _ _ _ _ (sym c.later_check_wrong.ensures ∙ c.if-later_check_wrong.false)
    (rw (c.decode-t.ensures, c.wide_bytes_not_zero-extra.ensures) at c.refuse.ensures))

pub returns-then-s-ne-TEST : goal.returns-then-s-ne-TEST
unfolding edition_refusal edition_lines length_lines
returns-then-s-ne-TEST c = reads-as-refused two _ 1 (whole_here _ _ _ _ (ap not (ne_eqb _ _ c.if-s-ne-TEST.true)))

pub returns-then-later_check_wrong : goal.returns-then-later_check_wrong
unfolding edition_refusal edition_lines length_lines
returns-then-later_check_wrong c = reads-as-refused two _ 2
    (whole-next _ _ _ _ _ (ap not (eq-eqb _ _ c.if-s-ne-TEST.false))
    (whole_here _ _ _ _ (sym c.later_check_wrong.ensures ∙ c.if-later_check_wrong.true)))

pub returns-in_err-refuse : goal.returns-in_err-refuse
returns-in_err-refuse c =
    let p = err_from_is_err_and c.from_residual.result c.from_residual.ensures.1 in
    rw (p.1, p.2) (reads-as-declined two _ _
    (sym (ap refused_by c.in_err-refuse.was) ∙ decided (goal.at.returns-in_err-refuse c).After-refuse))

pub returns : goal.returns
returns c = reads-as-table two _ _ (sym (ap refused_by c.in_ok-refuse.was) ∙ decided (goal.at.returns c).After-refuse) c.decode-t.ensures
