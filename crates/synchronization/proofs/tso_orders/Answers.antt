use Rattle.synchronization.proofs.tso_orders.Goals as goal

pub returns : goal.returns
returns c = cc
