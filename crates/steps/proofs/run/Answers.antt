use mathlib.Core.Path.{◌∙◌}
use Rattle.steps.proofs.RunLaws.{run_room, run-start, run_end, run-breaks, run_more}
use Rattle.steps.proofs.run.Goals as goal

pub loop-b-init : goal.loop-b-init
loop-b-init c = run-start c.requires.0.tso.good.small.events c.requires.1

pub take-requires : goal.take-requires
take-requires c = let k = c.requires.0 in (k, run_room k.tso c.loop-b.invariant)

pub returns-in_err-done : goal.returns-in_err-done
returns-in_err-done c = let v = c.loop-b.invariant in
    rw c.from_residual.ensures
    (run-breaks v c.loop-b-test.true (rw (c.from.ensures, c.in_err-done.was) at (c.take.ensures v.at v.reached v.holds)))

pub loop-b-preserved : goal.loop-b-preserved
loop-b-preserved c = let v = c.loop-b.invariant in
    run_more v c.loop-b-test.true c.requires.0.tso
    (rw (c.from.ensures, c.in_ok-done.was) at (c.take.ensures v.at v.reached v.holds))
    (c.take.auto.order ∙ v.long) (c.take.auto.rf ∙ v.each)

pub returns : goal.returns
returns c = run_end c.loop-b.invariant c.loop-b-test.false
