use Prim.Native.Nat.{ℕ, ◌≤◌}
use mathlib.Core.Path.{◌≡◌}
use lib.ListN.{length, get_or}
use lib.Seq.{sets}
use Rattle.edition.specs.Limits.{max_locations}
use Rattle.record_bytes.specs.RecordBytes.{two}
use Rattle.encode.specs.Encoded.{joined}
use Rattle.encode.proofs.put_values.Given as goal

-- `put_values`: the values passed are set.
abbrev pub invariant-loop-x : goal.invariant-loop-x
invariant-loop-x l = (l.x ≤ max_locations) × (length l.block ≡ length l.initial.block) × (l.block ≡ sets l.initial.block l.at (joined l.x (λ (y : ℕ). two (get_or l.fn.values y 0))))
