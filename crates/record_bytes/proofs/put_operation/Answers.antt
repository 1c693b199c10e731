use Prim.Native.Nat.{ℕ, suc, ◌+◌}
use mathlib.Core.Path.{◌≡◌, ap}
use native.Mathlib.Omega.{arith}
use lib.ListN.{set, length-set}
use Rattle.record_bytes.proofs.put_operation.Goals as goal

pub bounds-block-at-2 : goal.bounds-block-at-2
bounds-block-at-2 c = omega (arith, c.requires, length-set c.args.block.now (c.args.at + 14) c.args.e.operation)

pub returns : goal.returns
returns c = let a = c.args in
    let next : a.at + 15 ≡ suc (a.at + 14) = omega arith in
    ap (λ (i : ℕ). set (set a.block.now (a.at + 14) a.e.operation) i a.e.operand) next
