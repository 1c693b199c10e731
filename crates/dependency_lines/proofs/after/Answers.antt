use Prim.Native.Nat.{ℕ}
use mathlib.Core.Path.{◌≡◌, ap}
use lib.Bits.{bit_or}
use Rattle.dependency_lines.specs.declared.Passed.{Passed}
use Rattle.dependency_lines.specs.Passing.{after}
use Rattle.dependency_lines.proofs.after.Goals as goal

passed-same : {s s' x r r' : ℕ} → s ≡ s' → r ≡ r' →
    ◌≡◌ {A = Passed} (record { sources = s; controls = x; reserved = r }) (record { sources = s'; controls = x; reserved = r' })
passed-same p q = cc

pub returns : goal.returns
unfolding after
returns c = passed-same (ap (bit_or c.args.p.sources) (rw c.fences.ensures at c.one_if.ensures)) c.reserved_after.ensures
