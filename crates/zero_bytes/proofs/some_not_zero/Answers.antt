use Prim.Native.Nat.{ℕ, ◌+◌}
use mathlib.Core.Path.{◌≡◌, sym, ap, ◌∙◌}
use mathlib.Core.Bool.{not}
use native.Mathlib.Omega.{arith}
use lib.Dec.{eqb}
use lib.ListN.{drop, get_or}
use lib.Seq.{get_or-take, get_or-drop}
use Rattle.zero_bytes.specs.ZeroBytes.{not_zero}
use Rattle.zero_bytes.proofs.ZeroLaws.{sum_more}
use Rattle.zero_bytes.proofs.some_not_zero.Goals as goal

pub loop-b-preserved : goal.loop-b-preserved
unfolding not_zero
loop-b-preserved c = let v = c.loop-b in
    let a = c.args in
    let byte : get_or a.s.now (a.at + v.b-index) 0 ≡ c.from-sum.result =
    sym (c.from-sum.ensures ∙ get_or-take _ (drop a.at a.s.now) v.b-index 0 (omega arith) ∙ get_or-drop a.at a.s.now v.b-index 0)
    in
    (omega arith, omega (arith, byte, c.type_inv.s (a.at + v.b-index)), sum_more _ _ v.sum c.from-sum.result v.invariant.2 (ap (λ (b : ℕ). not (eqb b 0)) byte))
