use Rattle.overlap.proofs.rule3.Goals as goal

pub returns : goal.returns
returns c = cc
