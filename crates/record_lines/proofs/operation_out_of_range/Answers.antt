use Rattle.refusals.specs.TableLines.{operation_out_of_range}
use borrow.Author.Rules.{rules}
use Rattle.record_lines.proofs.operation_out_of_range.Goals as goal

pub returns : goal.returns
unfolding operation_out_of_range
returns c = search rules
