use Rattle.deciding.proofs.+least_among.Given as goal

-- the events that are left to place
abbrev pub decreases-least_among : goal.decreases-least_among
decreases-least_among l = l.left
