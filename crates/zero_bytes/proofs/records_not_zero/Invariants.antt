use Prim.Native.Nat.{ℕ, ◌+◌}
use Rattle.lists.proofs.ScanLaws.{Scanned}
use Rattle.edition.specs.Limits.{two, most_events}
use Rattle.decode.specs.Layout.{wide_record_at}
use Rattle.zero_bytes.specs.ZeroBytes.{some_not_zero}
use Rattle.zero_bytes.proofs.records_not_zero.Given as goal

abbrev pub invariant-loop-k : goal.invariant-loop-k
invariant-loop-k l = Scanned (λ (j : ℕ). some_not_zero l.s (wide_record_at j + 22) 10) (most_events two) l.k
