use native.Mathlib.Omega.{arith}
use Rattle.outcome_values.proofs.LocationLaws.{end-start, end_more, end-all}
use Rattle.outcome_values.proofs.final_values.Goals as goal

pub loop-x-init : goal.loop-x-init
loop-x-init c = end-start _ _ _ _ c.requires.2

pub loop-x-preserved : goal.loop-x-preserved
loop-x-preserved c = end_more _ _ _ _ _ _ c.loop-x.invariant (omega arith)
    (omega (arith, c.loop-x-test.true, c.requires.0, c.requires.1)) _ c.narrow.ensures

pub returns : goal.returns
returns c = let v = c.loop-x in record { values_after = end-all _ _ _ _ _ _ v.invariant (omega arith); values_len = v.invariant.long }
