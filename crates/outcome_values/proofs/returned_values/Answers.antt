use native.Mathlib.Omega.{arith}
use mathlib.Core.Path.{refl}
use Rattle.outcome_values.proofs.ReaderLaws.{read-start, read-room, read_more, read-end}
use Rattle.outcome_values.proofs.returned_values.Goals as goal

pub loop-e-init : goal.loop-e-init
loop-e-init c = rw c.into_iter-e-iterator.ensures.into_iter_gives (read-start _ _ c.ranges.readers.fits _ c.requires)

pub bounds-values-n : goal.bounds-values-n
bounds-values-n c =
    let s = c.in-Some.ensures.steps in
    let n = read-room _ _ _ _ _ _ _ c.loop-e.invariant s.some s.lowest refl in
    omega (arith, c.loop-e.invariant.long)

pub loop-e-preserved : goal.loop-e-preserved
loop-e-preserved c =
    let s = c.in-Some.ensures.steps in
    rw s.rest (read_more _ _ _ _ _ _ _ c.loop-e.invariant s.some s.lowest refl _ c.narrow.ensures)

pub returns : goal.returns
returns c = let v = c.loop-e in record {
  values_after = read-end _ _ _ _ _ v.invariant c.in-None.ensures.steps.0;
  upper_bound = (omega (arith, v.invariant.room), v.invariant.long);
}
