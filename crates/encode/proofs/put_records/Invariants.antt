use Prim.Native.Nat.{ℕ, ◌≤◌}
use mathlib.Core.Path.{◌≡◌}
use mathlib.Core.List.{◌++◌}
use lib.ListN.{length}
use Rattle.edition.specs.Limits.{one, most_events}
use Rattle.table.specs.Events.{event}
use Rattle.record_bytes.specs.RecordBytes.{record_bytes}
use Rattle.encode.specs.Encoded.{joined}
use Rattle.encode.specs.Begun.{begun, front}
use Rattle.encode.proofs.put_records.Given as goal

-- `put_records`: the records passed are set, and zeros stand behind them.
abbrev pub invariant-loop-k : goal.invariant-loop-k
invariant-loop-k l = (l.k ≤ most_events one) × (length l.block ≡ length l.initial.block) × (l.block ≡ begun (front l.fn.t ++ joined l.k (λ (j : ℕ). record_bytes (event l.fn.t j))))
