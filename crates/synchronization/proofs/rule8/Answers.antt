use Rattle.model.specs.Rules.{rule8}
use Rattle.synchronization.proofs.rule8.Goals as goal

pub returns : goal.returns
unfolding rule8
returns c = c.paired.ensures
