use Prim.Native.Nat.{ℕ, ◌-◌}
use mathlib.Core.List.{List}
use mathlib.Core.Path.{◌∙◌, ap}
use Rattle.console.specs.Rows as Rows
use Rattle.console.proofs.RowLaws.{row_first, row-later}
use Rattle.console.proofs.rows.+row.Goals as goal

pub returns-then-k-eq0 : goal.returns-then-k-eq0
returns-then-k-eq0 t c = row_first _ _ _ c.if-k-eq0.true c.first_row.ensures

pub returns-else-k-eq0 : goal.returns-else-k-eq0
returns-else-k-eq0 t c = row-later _ _ _ c.if-k-eq0.false (c.row.ensures ∙ ap (λ (xs : List ℕ). Rows.row xs (c.args.k - 1)) c.later_rows.ensures)
