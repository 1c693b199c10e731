use native.Mathlib.Omega.{arith}
use Rattle.answer_word.specs.Words.{word}
use Rattle.answer_word.proofs.word.Goals as goal

pub returns : goal.returns
unfolding word
returns c = rw (c.from.ensures, c.from_le_bytes.ensures) (omega arith)
