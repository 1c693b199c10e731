use Prim.Native.Nat.{ℕ, ◌-◌}
use mathlib.Core.Path.{◌≡◌, ap, ◌∙◌}
use native.Mathlib.Omega.{arith}
use lib.ListN.{length, drop}
use Rattle.rule_sets.specs.RuleMask.{set_mask}
use Rattle.rule_sets.proofs.MaskLaws.{mask-none, mask-more, mask_fits}
use Rattle.rule_sets.proofs.set_mask.Goals as goal

pub loop-k-init : goal.loop-k-init
loop-k-init c = (omega arith, mask-none c.args.held 13 (omega (arith, c.well_formed.0.1.0.1)))

pub overflow_mul-set : goal.overflow_mul-set
overflow_mul-set c = omega (arith, mask_fits 13 c.args.held c.loop-k.k (omega (arith, c.well_formed.0.1.0.1)))

pub overflow_add-set : goal.overflow_add-set
overflow_add-set c = let held = c.args.held in
    let long : length held ≡ 13 = c.well_formed.0.1.0.1 in
    let v = c.loop-k in
    omega (arith, mask_fits 13 held (v.k - 1) (omega arith), mask-more held v.k _ (omega arith) (omega arith) v.invariant.1)

pub loop-k-preserved : goal.loop-k-preserved
loop-k-preserved c = let v = c.loop-k in
    (omega arith, rw c.from.ensures (mask-more _ v.k _ (omega arith) (omega arith) v.invariant.1))

pub returns : goal.returns
returns c = let v = c.loop-k in
    let none_left : v.k ≡ 0 = omega arith in
    v.invariant.1 ∙ ap (λ (k : ℕ). set_mask (drop k c.args.held)) none_left
