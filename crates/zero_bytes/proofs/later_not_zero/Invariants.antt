use Prim.Native.Nat.{ℕ, ◌+◌, ◌*◌, ◌-◌}
use Rattle.lists.proofs.ScanLaws.{Scanned}
use Rattle.edition.specs.Limits.{two, block_length, blocks_of}
use Rattle.zero_bytes.specs.ZeroBytes.{some_not_zero}
use Rattle.zero_bytes.proofs.later_not_zero.Given as goal

abbrev pub invariant-loop-b : goal.invariant-loop-b
invariant-loop-b l = Scanned (λ (j : ℕ). some_not_zero l.s (block_length * (1 + j) + 480) 28) (blocks_of two - 1) l.b
