use mathlib.Core.Path.{sym}
use native.Mathlib.Omega.{arith}
use Rattle.suite_part.proofs.PartLaws.{part_none, part}
use Rattle.suite_part.proofs.block.Goals as goal

-- `block`: the answers are the ways that block k may lie.
pub returns-then-blocks-k : goal.returns-then-blocks-k
returns-then-blocks-k c = sym (part_none _ _ (omega arith))

pub returns : goal.returns
returns c = part _ _ _ c.min-to.ensures
