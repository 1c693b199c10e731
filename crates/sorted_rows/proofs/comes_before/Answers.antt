use Prim.Native.Nat.{ℕ}
use native.Mathlib.Omega.{arith}
use mathlib.Core.Path.{◌≡◌, sym, ap, ◌∙◌}
use lib.ListN.{length, drop}
use Rattle.lists.specs.Ascending.{less}
use Rattle.sorted_rows.proofs.CompareLaws.{compare-more, compare-apart, compare-past, compare-end}
use Rattle.sorted_rows.proofs.comes_before.Goals as goal

pub returns-then-b-k : goal.returns-then-b-k
returns-then-b-k c = let v = c.loop-k in
    compare-past _ _ v.k (omega arith) c.if-b-k.true ∙ sym v.invariant

pub returns-then-a-k : goal.returns-then-a-k
returns-then-a-k c = let v = c.loop-k in
    compare-apart _ _ v.k (omega arith) (omega arith) c.if-a-k.true ∙ sym v.invariant

pub loop-k-preserved : goal.loop-k-preserved
loop-k-preserved c = let v = c.loop-k in
    v.invariant ∙ compare-more _ _ v.k (omega arith) (omega arith) (omega arith)

pub returns : goal.returns
returns c = let v = c.loop-k in
    let a = c.args in
    let e : v.k ≡ length a.a.now = omega arith in
    compare-end a.a.now a.b.now ∙ sym (v.invariant ∙ ap (λ (n : ℕ). less (drop n a.a.now) (drop n a.b.now)) e)
