use mathlib.Core.Bool.{not, ◌&&◌}
use Rattle.lists.proofs.ScanLaws.{Scanned}
use Rattle.masks.specs.Bit.{bit}
use Rattle.refusals.specs.TableLines.{touched}
use Rattle.table_lines.proofs.line21.Given as goal

abbrev pub invariant-loop-x : goal.invariant-loop-x
invariant-loop-x l = Scanned (λ y. not (touched l.fn.t y) && not (bit l.fn.named y)) l.fn.t.locations l.x
