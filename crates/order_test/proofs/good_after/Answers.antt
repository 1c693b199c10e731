use Rattle.order_test.proofs.good_after.Goals as goal

pub returns : goal.returns
returns c = cc
