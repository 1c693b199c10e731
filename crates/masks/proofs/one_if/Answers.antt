use Rattle.masks.proofs.one_if.Goals as goal

pub returns-then-passes : goal.returns-then-passes
returns-then-passes c = rw c.if-passes.true c.one.ensures
