use mathlib.Core.Path.{ap, ◌∙◌}
use native.Mathlib.Omega.{arith}
use lib.Count.{ones, ones-le}
use Rattle.table.proofs.MemoryLaws.{memory-mask-ones}
use Rattle.answers.proofs.total.Goals as goal

pub overflow_cast-result : goal.overflow_cast-result
overflow_cast-result c = omega (arith, ones-le 32 c.memory_mask.result (omega arith))

pub returns : goal.returns
returns c = ap ones c.memory_mask.ensures ∙ memory-mask-ones _
