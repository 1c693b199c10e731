use Rattle.console.proofs.rows.+row.Given as goal

abbrev pub decreases-row : goal.decreases-row
decreases-row l = l.k
