use Rattle.refusals.specs.TableLines.{operand_not_zero}
use borrow.Author.Rules.{rules}
use Rattle.record_lines.proofs.operand_not_zero.Goals as goal

pub returns : goal.returns
unfolding operand_not_zero
returns c = search rules
