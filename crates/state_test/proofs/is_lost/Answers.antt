use Rattle.state_test.proofs.LostLaws.{lost-final, lost-read}
use Rattle.state_test.proofs.is_lost.Goals as goal

pub returns-then-lost_final : goal.returns-then-lost_final
returns-then-lost_final c = rw c.if-lost_final.true (lost-final _ _ c.args.s _ c.lost_final.ensures c.if-lost_final.true)

pub returns-else-lost_final : goal.returns-else-lost_final
returns-else-lost_final c = lost-read _ _ c.args.s _ c.lost_final.ensures c.if-lost_final.false _ c.lost_read.ensures
