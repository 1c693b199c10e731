use mathlib.Core.Path.{◌∙◌}
use borrow.Author.Tests.{lt-ltb}
use Rattle.edition.specs.Limits.{two, most_events}
use Rattle.refusals.specs.TableLines.{table_lines_by}
use Rattle.refusals.proofs.InRange.{too_many}
use Rattle.refusals.proofs.LineLaws.{whole_here}
use Rattle.table_lines.proofs.UsedLaws.{all_named}
use Rattle.table_lines.proofs.AsBlockLaws.{text-lines}
use Rattle.table_lines.proofs.refuse_text.Goals as goal

pub returns-then-from-gt-EVENTS : goal.returns-then-from-gt-EVENTS
unfolding table_lines_by
returns-then-from-gt-EVENTS c = whole_here _ _ _ _ (too_many (most_events two) _ (lt-ltb _ _ (rw c.from.ensures at c.if-from-gt-EVENTS.true)))

pub returns : goal.returns
returns c = c.refuse.ensures ∙ all_named _ (most_events two) _ ∙ text-lines _ _ c.table_as_block.ensures (most_events two)
