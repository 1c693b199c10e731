use mathlib.Core.Path.{ap, sym, subst, ◌∙◌}
use Rattle.text.specs.declared.TextRefusal.{TextRefusal}
use Rattle.text.specs.TextRefusals.{text_refusal_of}
use Rattle.answer_word.specs.Words.{refusal_word}
use Rattle.answer_word.specs.Given.{PlaceFits}
use Rattle.answer_word.proofs.text_refusal_word.Goals as goal

pub word-requires : goal.word-requires
word-requires c = subst PlaceFits c.in-At.is c.requires

pub returns-in-At : goal.returns-in-At
returns-in-At c = c.word.ensures ∙ sym (ap (λ (r : TextRefusal). refusal_word (text_refusal_of r)) c.in-At.is)
