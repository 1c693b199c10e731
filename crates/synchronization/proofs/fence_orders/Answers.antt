use Rattle.synchronization.proofs.fence_orders.Goals as goal

pub returns : goal.returns
returns c = cc
