use native.Mathlib.Nat.{le_of_lt}
use Rattle.suite.proofs.HeldLaws.{rotated, none-left}
use Rattle.suite.proofs.held.move_down.Goals as goal

pub returns-then-held-past-clause-buffer_after : goal.returns-then-held-past-clause-buffer_after
returns-then-held-past-clause-buffer_after c = none-left _ _ _ c.if-held-past.true

pub returns-clause-buffer_after : goal.returns-clause-buffer_after
returns-clause-buffer_after c = rotated _ _ _ _ _ (le_of_lt c.if-held-past.false) c.requires c.rotate_left.ensures.after
