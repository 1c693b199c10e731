use Rattle.condition_test.proofs.AtomLaws.{skip-taken, skip-left}
use Rattle.condition_test.proofs.skip_behind.Goals as goal

pub returns-then-kind_of-decided : goal.returns-then-kind_of-decided
returns-then-kind_of-decided c = let a = c.args in
    skip-taken a.bit a.word _ _ c.kind_of.ensures c.decided.ensures c.if-kind_of-decided.true

pub returns-else-kind_of-decided : goal.returns-else-kind_of-decided
returns-else-kind_of-decided c = let a = c.args in
    skip-left a.bit a.word _ _ c.kind_of.ensures c.decided.ensures c.if-kind_of-decided.false
