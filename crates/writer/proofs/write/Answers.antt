use borrow.Author.Rules.{rules}
use Rattle.writer.proofs.WritingLaws.{refused-short, left-short}
use Rattle.writer.proofs.write.Goals as goal

pub returns-then-out-ne-BLOCK : goal.returns-then-out-ne-BLOCK
returns-then-out-ne-BLOCK c = record { result_value = search (refused-short, rules); out_after = search (left-short, rules) }
