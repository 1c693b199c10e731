use Rattle.state_test.proofs.DisturbLaws.{disturb}
use Rattle.state_test.proofs.disturbers.Goals as goal

pub returns : goal.returns
returns c t b l = disturb b _ _ l _ _ c.less.ensures (c.lacking.ensures t b.known l)
