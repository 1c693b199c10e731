use Rattle.answer_word.specs.Words.{verdict_word}
use Rattle.answer_word.proofs.SetLaws.{pair-word}
use Rattle.verdict.specs.Judged.{axiom_of}
use Rattle.verdict.specs.declared.Axiom.{Axiom}
use mathlib.Core.Path.{sym, ap, ◌∙◌}
use Rattle.answer_word.proofs.axiom_word.Goals as goal

pub word-requires : goal.word-requires
word-requires c = c.upper_half.ensures.upper_bound

pub returns-in-PreservedOrder : goal.returns-in-PreservedOrder
returns-in-PreservedOrder c = c.word.ensures ∙ pair-word _ _ _ _ _ c.lowest.ensures c.upper_half.ensures.value
    ∙ sym (ap (λ (a : Axiom). verdict_word (axiom_of a)) c.in-PreservedOrder.is)

pub returns-in-LoadValue : goal.returns-in-LoadValue
returns-in-LoadValue c = c.word-in-LoadValue.ensures ∙ sym (ap (λ (a : Axiom). verdict_word (axiom_of a)) c.in-LoadValue.is)

pub returns-in-Atomicity : goal.returns-in-Atomicity
returns-in-Atomicity c = c.word-in-Atomicity.ensures ∙ sym (ap (λ (a : Axiom). verdict_word (axiom_of a)) c.in-Atomicity.is)

pub returns-in-ValueRead : goal.returns-in-ValueRead
returns-in-ValueRead c = c.word-in-ValueRead.ensures ∙ sym (ap (λ (a : Axiom). verdict_word (axiom_of a)) c.in-ValueRead.is)

pub returns-in-FinalValue : goal.returns-in-FinalValue
returns-in-FinalValue c = c.word-in-FinalValue.ensures ∙ sym (ap (λ (a : Axiom). verdict_word (axiom_of a)) c.in-FinalValue.is)
