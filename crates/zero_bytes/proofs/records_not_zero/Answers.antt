use Prim.Native.Nat.{ℕ, ◌+◌}
use mathlib.Core.Path.{sym, ap, ◌∙◌}
use native.Mathlib.Omega.{arith}
use Rattle.lists.proofs.ScanLaws.{scan-start, scan-more, some-hit, some_end}
use Rattle.zero_bytes.specs.ZeroBytes.{some_not_zero}
use Rattle.zero_bytes.proofs.records_not_zero.Goals as goal

pub loop-k-init : goal.loop-k-init
loop-k-init c = scan-start _ _

pub returns-then-some_not_zero : goal.returns-then-some_not_zero
returns-then-some_not_zero c = let v = c.loop-k in
    sym (some-hit _ _ v.k v.invariant (omega arith) (sym (c.some_not_zero.ensures ∙ ap (λ (n : ℕ). some_not_zero c.args.s.now (n + 22) 10) c.place.ensures) ∙ c.if-some_not_zero.true))

pub loop-k-preserved : goal.loop-k-preserved
loop-k-preserved c = let v = c.loop-k in
    scan-more _ _ v.k v.invariant (omega arith) (sym (c.some_not_zero.ensures ∙ ap (λ (n : ℕ). some_not_zero c.args.s.now (n + 22) 10) c.place.ensures) ∙ c.if-some_not_zero.false)

pub returns : goal.returns
returns c = sym (some_end _ _ _ c.loop-k.invariant (omega arith))
