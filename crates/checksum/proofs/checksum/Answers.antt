use Prim.Native.Nat.{ℕ, ◌*◌, ◌-◌}
use mathlib.Core.Path.{◌≡◌, refl, ap}
use native.Mathlib.Omega.{arith}
use lib.ListN.{take, drop}
use Rattle.checksum.specs.Checksum.{covered, weighted_from, checksum}
use Rattle.checksum.specs.Lanes.{lanes, plain}
use Rattle.checksum.proofs.LaneLaws.{summed-small, rows_last, rows_more}
use Rattle.checksum.proofs.checksum.Goals as goal

pub loop-k-init : goal.loop-k-init
unfolding plain
loop-k-init c = let s = c.args.s.now in (
  rows_last (covered - lanes) lanes covered s _ _ refl c.requires c.row-sums.ensures.bytes refl refl,
  c.row-sums.ensures.small,
  omega arith,
)

pub loop-k-preserved : goal.loop-k-preserved
loop-k-preserved c = let v = c.loop-k in
    let row = c.row in
    let turn =
    rows_more (lanes * (v.k - 1)) lanes (lanes * v.k) covered c.args.s.now row.result v.sums v.steps
    (omega arith) (omega (arith, v.auto.k)) c.requires row.ensures.bytes v.invariant.0
    in
    rw (c.add-more_sums.ensures, c.add-more_steps.ensures) (
      turn.0,
      omega (arith, turn.1, row.ensures.small),
      omega (arith, turn.2),
    )

pub overflow_add-result : goal.overflow_add-result
overflow_add-result c = let v = c.loop-k in
    omega (arith, summed-small _ _ _ _ v.invariant.0, c.by_place.ensures, c.times_lanes.ensures)

pub returns : goal.returns
unfolding checksum
returns c = let v = c.loop-k in
    let s = c.args.s.now in
    let whole : lanes * v.k ≡ 0 = omega arith in
    omega (arith, v.invariant.0.weighed, ap (λ (at : ℕ). weighted_from 0 (drop at (take covered s))) whole)
