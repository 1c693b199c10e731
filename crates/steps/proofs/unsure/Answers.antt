use mathlib.Core.Path.{sym}
use Rattle.table.proofs.EventTests.{of_events}
use Rattle.steps.proofs.BufferMasks.{unsure-is}
use Rattle.steps.proofs.unsure.Goals as goal

pub returns : goal.returns
unfolding of_events
returns c s q = sym (unsure-is _ s _ q c.requires.0.tso c.args.w.0 c.requires.1)
