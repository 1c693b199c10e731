use Rattle.state_test.proofs.StateLaws.{tell-ends}
use Rattle.state_test.proofs.ends_well.Goals as goal

pub returns : goal.returns
returns c = tell-ends _ _ _ _ _ c.less-peers.ensures (rw c.from.ensures at c.has.ensures)
