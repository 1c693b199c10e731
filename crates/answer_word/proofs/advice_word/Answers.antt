use mathlib.Core.Path.{sym, ap, ◌∙◌}
use Rattle.advising.proofs.EventLaws.{events-mask}
use Rattle.answer_word.specs.Words.{word}
use borrow.Author.Rules.{rules}
use Rattle.answer_word.proofs.advice_word.Goals as goal

pub returns-in-Ok-Advised : goal.returns-in-Ok-Advised
returns-in-Ok-Advised c = c.word.ensures ∙ ap (word 11 0 0 0) (c.from.ensures ∙ sym (events-mask _ (search rules))) ∙ search rules

pub returns-in-Ok-Undecided : goal.returns-in-Ok-Undecided
returns-in-Ok-Undecided c =
    c.word-in-Ok-Undecided.ensures ∙ ap (word 12 0 0 0) (c.from-in-Ok-Undecided.ensures ∙ sym (events-mask _ (search rules))) ∙ search rules
