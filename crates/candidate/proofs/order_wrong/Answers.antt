use Rattle.candidate.proofs.OrderLaws.{order-wrong}
use Rattle.candidate.proofs.order_wrong.Goals as goal

pub returns : goal.returns
returns c = rw (c.all_memory.ensures, c.some_not_once.ensures) (order-wrong _ _)
