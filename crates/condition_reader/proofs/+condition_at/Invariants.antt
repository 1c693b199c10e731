use Rattle.condition_reader.proofs.+condition_at.Given as goal

-- the levels that may still begin
abbrev pub decreases-condition_at : goal.decreases-condition_at
decreases-condition_at l = l.depth
