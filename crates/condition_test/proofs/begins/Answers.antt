use Prim.Native.Nat.{ℕ}
use mathlib.Core.Path.{◌≡◌, refl, subst}
use native.Mathlib.Omega.{arith}
use lib.ListN.{take}
use Rattle.condition_test.proofs.RunLaws.{take_more}
use Rattle.condition_test.proofs.begins.Goals as goal

pub returns-then-len-n : goal.returns-then-len-n
returns-then-len-n c = tt

pub loop-i-init : goal.loop-i-init
loop-i-init c = (omega arith, refl)

pub returns-then-order-i : goal.returns-then-order-i
returns-then-order-i c = tt

pub loop-i-preserved : goal.loop-i-preserved
loop-i-preserved c = let v = c.loop-i in
    let fit = c.requires.0 in (
      omega arith,
      take_more c.args.order.now c.args.seen.now v.i (omega (arith, fit.long, fit.within))
          (omega (arith, c.requires.1, fit.within)) v.invariant.1 c.if-order-i.false,
    )

pub returns : goal.returns
returns c = let v = c.loop-i in
    let done : v.i ≡ c.args.n = omega (arith, v.invariant.0, c.loop-i-test.false) in (
      omega (arith, c.if-len-n.false),
      subst (λ (i : ℕ). take i c.args.order.now ≡ take i c.args.seen.now) done v.invariant.1,
    )
