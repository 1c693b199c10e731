use Rattle.order_test.specs.Testing.{open_by}
use Rattle.order_test.proofs.is_open.Goals as goal

pub returns : goal.returns
unfolding open_by
returns c = cc
