use mathlib.Core.Path.{sym, ap, ◌∙◌}
use mathlib.Core.Bool.{Bool}
use Rattle.table_lines.specs.AsBlock.{bare, as_block}
use Rattle.table_lines.proofs.as_block.Goals as goal

pub returns-then-text_line7 : goal.returns-then-text_line7
unfolding as_block
returns-then-text_line7 c = ap (λ (b : Bool). bare b c.args.e) (sym (sym c.text_line7.ensures ∙ c.if-text_line7.true))

pub returns-else-text_line7 : goal.returns-else-text_line7
unfolding as_block
returns-else-text_line7 c = ap (λ (b : Bool). bare b c.args.e) (sym (sym c.text_line7.ensures ∙ c.if-text_line7.false))
