use Prim.Native.Nat.{ℕ, ◌^◌, ◌≤◌, ◌<◌}
use mathlib.Core.Path.{◌≡◌}
use mathlib.Core.Bool.{false}
use Rattle.table.specs.declared.Table.{Table}
use Rattle.refusals.specs.TableLines.{past_not_blank}
use Rattle.whole_lines.proofs.past_not_blank.Given as goal

-- of the records past the events those before k are blank
pub record Blank (t : Table) (k : ℕ) : Type 0 where
  pub byte : k < 2 ^ 8
  pub past : t.count ≤ k
  pub none : (j : ℕ) → j < k → past_not_blank t j ≡ false

abbrev pub invariant-loop-k : goal.invariant-loop-k
invariant-loop-k l = Blank l.t l.k
