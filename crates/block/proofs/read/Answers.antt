use mathlib.Core.Path.{sym, ap, ap₂, ◌∙◌}
use mathlib.Core.Bool.{not, ◌&&◌}
use borrow.Author.Tests.{ne_eqb, lt-ltb, le-ltb}
use Rattle.edition.specs.Limits.{one, two}
use Rattle.refusals.proofs.LineLaws.{whole_here, whole-next}
use Rattle.block.specs.Reading.{read_refusal, reading_lines, header_lines}
use Rattle.block.proofs.ReadingLaws.{reads-refused, reads-edition}
use Rattle.block.proofs.read.Goals as goal

pub returns-then-s-lt-BLOCK : goal.returns-then-s-lt-BLOCK
unfolding read_refusal reading_lines header_lines
returns-then-s-lt-BLOCK c = reads-refused _ 1 (whole_here _ _ _ _ (lt-ltb _ _ c.if-s-lt-BLOCK.true))

pub returns-then-check_wrong : goal.returns-then-check_wrong
unfolding read_refusal reading_lines header_lines
returns-then-check_wrong c = reads-refused _ 2
    (whole-next _ _ _ _ _ (le-ltb _ _ c.if-s-lt-BLOCK.false)
    (whole_here _ _ _ _ (sym c.check_wrong.ensures ∙ c.if-check_wrong.true)))

pub returns-then-marker_wrong : goal.returns-then-marker_wrong
unfolding read_refusal reading_lines header_lines
returns-then-marker_wrong c = reads-refused _ 3
    (whole-next _ _ _ _ _ (le-ltb _ _ c.if-s-lt-BLOCK.false)
    (whole-next _ _ _ _ _ (sym c.check_wrong.ensures ∙ c.if-check_wrong.false)
    (whole_here _ _ _ _ (sym c.marker_wrong.ensures ∙ c.if-marker_wrong.true))))

pub returns-then-s-eq-NUMBER : goal.returns-then-s-eq-NUMBER
returns-then-s-eq-NUMBER c = reads-edition one _ _
    (le-ltb _ _ c.if-s-lt-BLOCK.false)
    (sym c.check_wrong.ensures ∙ c.if-check_wrong.false)
    (sym c.marker_wrong.ensures ∙ c.if-marker_wrong.false)
    c.if-s-eq-NUMBER.true c.read_one.ensures

pub returns-then-s-eq-NUMBER-2 : goal.returns-then-s-eq-NUMBER-2
returns-then-s-eq-NUMBER-2 c = reads-edition two _ _
    (le-ltb _ _ c.if-s-lt-BLOCK.false)
    (sym c.check_wrong.ensures ∙ c.if-check_wrong.false)
    (sym c.marker_wrong.ensures ∙ c.if-marker_wrong.false)
    c.if-s-eq-NUMBER-2.true c.read_two.ensures

pub returns : goal.returns
unfolding read_refusal reading_lines header_lines
returns c = reads-refused _ 4
    (whole-next _ _ _ _ _ (le-ltb _ _ c.if-s-lt-BLOCK.false)
    (whole-next _ _ _ _ _ (sym c.check_wrong.ensures ∙ c.if-check_wrong.false)
    (whole-next _ _ _ _ _ (sym c.marker_wrong.ensures ∙ c.if-marker_wrong.false)
    (whole_here _ _ _ _ (ap₂ ◌&&◌ (ap not (ne_eqb _ _ c.if-s-eq-NUMBER.false)) (ap not (ne_eqb _ _ c.if-s-eq-NUMBER-2.false)))))))
