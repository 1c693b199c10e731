use Rattle.state_test.proofs.StateLaws.{steps}
use Rattle.state_test.proofs.step.Goals as goal

pub returns : goal.returns
returns c = steps _ _ _ _ _ (rw c.from.ensures at c.one.ensures) c.good_after-good.ensures _ c.less.ensures
