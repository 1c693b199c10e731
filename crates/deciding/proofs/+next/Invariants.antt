use Rattle.deciding.proofs.+next.Given as goal

-- the events that are left to place
abbrev pub decreases-next : goal.decreases-next
decreases-next l = l.left
