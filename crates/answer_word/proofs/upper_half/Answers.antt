use Rattle.answer_word.proofs.SetLaws.{set-mask}
use mathlib.Core.Path.{◌∙◌}
use native.Mathlib.Omega.{arith}
use Rattle.answer_word.proofs.upper_half.Goals as goal

pub returns : goal.returns
returns c = record { value = c.from.ensures ∙ set-mask _ (omega arith); upper_bound = omega (arith, c.from.ensures) }
