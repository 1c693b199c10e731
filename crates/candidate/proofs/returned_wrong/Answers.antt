use Rattle.candidate.specs.CandidateLines.{returned_wrong, entry_wrong}
use mathlib.Core.Path.{sym}
use native.Mathlib.Omega.{arith}
use Rattle.lists.proofs.ScanLaws.{scan-start, scan-more, some-hit, some_end}
use Rattle.candidate.proofs.returned_wrong.Goals as goal

pub loop-e-init : goal.loop-e-init
loop-e-init c = scan-start _ _

pub returns-then-entry_wrong : goal.returns-then-entry_wrong
unfolding returned_wrong entry_wrong
returns-then-entry_wrong c = sym (some-hit _ _ _ c.loop-e.invariant (omega arith) (rw (c.entry_wrong.ensures, c.returned_from.ensures) at c.if-entry_wrong.true))

pub loop-e-preserved : goal.loop-e-preserved
unfolding entry_wrong
loop-e-preserved c = scan-more _ _ _ c.loop-e.invariant (omega arith) (rw (c.entry_wrong.ensures, c.returned_from.ensures) at c.if-entry_wrong.false)

pub returns : goal.returns
unfolding returned_wrong
returns c = sym (some_end _ _ _ c.loop-e.invariant (omega arith))
