use Rattle.answer_word.specs.Words.{refusal_word}
use Rattle.refusals.specs.Refusals.{refusal_of}
use Rattle.refusals.specs.declared.Refusal.{Refusal}
use mathlib.Core.Path.{sym, ap, ◌∙◌}
use Rattle.answer_word.proofs.refusal_word.Goals as goal

pub returns-in-Line : goal.returns-in-Line
returns-in-Line c = c.word.ensures ∙ sym (ap (λ (r : Refusal). refusal_word (refusal_of r)) c.in-Line.is)

pub returns-in-Record : goal.returns-in-Record
returns-in-Record c = c.word-in-Record.ensures ∙ sym (ap (λ (r : Refusal). refusal_word (refusal_of r)) c.in-Record.is)
