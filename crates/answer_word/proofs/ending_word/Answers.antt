use native.Mathlib.Omega.{arith}
use Rattle.answer_word.specs.Given.{ending_word, EndingFits}
use mathlib.Core.Path.{sym, ap, subst, ◌∙◌}
use Rattle.answer_word.proofs.ending_word.Goals as goal

pub overflow_cast-len : goal.overflow_cast-len
overflow_cast-len c = omega (arith, (subst EndingFits c.in-Found.is c.requires).0)

pub word-requires : goal.word-requires
word-requires c = (subst EndingFits c.in-Found.is c.requires).1

pub word-requires-in-NoneLeft : goal.word-requires-in-NoneLeft
word-requires-in-NoneLeft c = subst EndingFits c.in-NoneLeft.is c.requires

pub overflow_cast-len-in-Spent : goal.overflow_cast-len-in-Spent
overflow_cast-len-in-Spent c = omega (arith, (subst EndingFits c.in-Spent.is c.requires).0)

pub word-requires-in-Spent : goal.word-requires-in-Spent
word-requires-in-Spent c = (subst EndingFits c.in-Spent.is c.requires).1

pub returns-in-Found : goal.returns-in-Found
returns-in-Found c = c.word.ensures ∙ sym (ap ending_word c.in-Found.is)

pub returns-in-NoneLeft : goal.returns-in-NoneLeft
returns-in-NoneLeft c = c.word-in-NoneLeft.ensures ∙ sym (ap ending_word c.in-NoneLeft.is)

pub returns-in-Spent : goal.returns-in-Spent
returns-in-Spent c = c.word-in-Spent.ensures ∙ sym (ap ending_word c.in-Spent.is)
