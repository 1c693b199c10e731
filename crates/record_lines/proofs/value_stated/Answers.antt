use Rattle.refusals.specs.TableLines.{value_stated}
use borrow.Author.Rules.{rules}
use Rattle.record_lines.proofs.value_stated.Goals as goal

pub returns : goal.returns
unfolding value_stated
returns c = search rules
