use mathlib.Core.Bool.{◌&&◌}
use lib.Dec.{eqb}
use Rattle.lists.proofs.ScanLaws.{Scanned}
use Rattle.masks.specs.Bit.{bit}
use Rattle.table.specs.Events.{hart}
use Rattle.steps.proofs.first_of.Given as goal

abbrev pub invariant-loop-e : goal.invariant-loop-e
invariant-loop-e l = Scanned (λ k. eqb (hart l.t k) l.h && bit l.m k) l.t.count l.e
