use Rattle.state_test.proofs.StateLaws.{starts}
use Rattle.state_test.proofs.first.Goals as goal

pub returns : goal.returns
returns c = starts _
